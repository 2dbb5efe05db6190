-- The range of a cell's value by magnitudes, and what keeps a list's statistic in it.
use Rattle.std.proofs.Common.{◌≡◌, ℕ, ◌≤◌, true, arith, ℤ, pos, negsuc, unsigned_abs}
use Rattle.std.proofs.lemmas.Bool.Decides.{nat_tests}
use Rattle.map_nums.specs.Numbers.{is_value, vmax}

-- its magnitude
abbrev pub most : ℕ
most = unsigned_abs vmax

pub in_range_from_magnitude : (z : ℤ) → unsigned_abs z ≤ most → is_value z ≡ true
in_range_from_magnitude (pos n) h = grind (arith, nat_tests)
in_range_from_magnitude (negsuc n) h = grind (arith, nat_tests)

pub magnitude_in_range : (z : ℤ) → is_value z ≡ true → unsigned_abs z ≤ most
magnitude_in_range (pos n) h = grind (arith, nat_tests)
magnitude_in_range (negsuc n) h = grind (arith, nat_tests)

-- a value's magnitude, by a bound with room for wider cells
pub value_small : (z : ℤ) → is_value z ≡ true → unsigned_abs z ≤ 1000000000000000
value_small z h = let m = magnitude_in_range z h in omega arith
