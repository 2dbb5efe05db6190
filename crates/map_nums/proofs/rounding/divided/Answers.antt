use Rattle.std.proofs.Common.{◌≡◌, ◌≤ℤ◌, ℤ, pos, negsuc, neg_ℤ, to_z, of_z, w64, FitsSigned, unsigned_abs, ◌≤◌, arith}
use Rattle.std.specs.Prelude.{int_rem}
use Rattle.std.specs.Int.{w128}
use Rattle.std.proofs.lemmas.Int.{ints, to_z-of_z, fits_signed_from_abs, rem_is, rem_below}
use Rattle.map_nums.proofs.Floors.{abs_some}
use Rattle.map_nums.proofs.rounding.divided.Goals as goal

short : (z : ℤ) → neg_ℤ (pos 9223372036854775807) ≤ℤ z → z ≤ℤ pos 9223372036854775807 → unsigned_abs z ≤ 9223372036854775807
short (pos n) l h = omega (arith, ints)
short (negsuc n) l h = omega (arith, ints)

same : (z : ℤ) → FitsSigned w128 z → to_z w128 (of_z w128 z) ≡ z
same z f = to_z-of_z w128 z f

pub returns-then-b-le-SHORT-clause-rest : goal.returns-then-b-le-SHORT-clause-rest
returns-then-b-le-SHORT-clause-rest c =
    let a = c.args.a in let b = c.args.b in
    let m : unsigned_abs a ≤ 9223372036854775807 = short a (grind (arith, ints)) (grind (arith, ints)) in
    let n : unsigned_abs b ≤ 9223372036854775807 = short b (grind (arith, ints)) (grind (arith, ints)) in
    let f : FitsSigned w64 a = fits_signed_from_abs w64 a (omega arith) in
    let g : FitsSigned w64 b = fits_signed_from_abs w64 b (omega arith) in
    let r = rem_below a b (abs_some b c.requires.divisor) in
    let k : FitsSigned w128 (int_rem a b) = fits_signed_from_abs w128 (int_rem a b) (omega (arith, r)) in
    rw (same a c.ranges.a, same b c.ranges.b, rem_is w64 a b f g) (same (int_rem a b) k)
