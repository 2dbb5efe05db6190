-- The statistics of no number and of one.
use Rattle.std.proofs.Common.{◌≡◌, Bool, true, false, [], ◌∷◌, Option, Some, None, ℤ, pos, refl, sym, ap, arith, inl}
use Rattle.std.specs.Prelude.{int_le, int_lt, nat_lt, Ok}
use Rattle.std.specs.List.{find, list_all}
use Rattle.std.proofs.lemmas.Int.{ints}
use Rattle.map_nums.specs.Exact.{IsExact}
use Rattle.map_nums.specs.Grids.{numbers_in}
use Rattle.map_nums.specs.Stats.{statistic_of, occurrences, maximum_of, minimum_of, median_of, majority_of, minority_of, is_lower_median, leads, trails}
use Rattle.map_nums.specs.declared.Stat.{Stat}
use Rattle.map_nums.specs.declared.Stat.TheVariants.{Sum, Product, Maximum, Minimum, Mean, Median, Majority, Minority, Variety}
use Rattle.map_nums.proofs.Extremes.{le_is_true}
use Rattle.map_defs.proofs.Floors.{floor_only}
use Rattle.local_ops.proofs.Twos.{ties}

pub statistic_of-none : (stat : Stat) → statistic_of stat [] ≡ None
unfolding maximum_of minimum_of median_of majority_of minority_of
statistic_of-none Sum = refl
statistic_of-none Product = refl
statistic_of-none Maximum = refl
statistic_of-none Minimum = refl
statistic_of-none Mean = refl
statistic_of-none Median = refl
statistic_of-none Majority = refl
statistic_of-none Minority = refl
statistic_of-none Variety = refl

only : (p : ℤ → Bool) (z : ℤ) → p z ≡ true → find p (z ∷ []) ≡ Some z
only p z e = rw (e) refl

leading : (before : ℤ → ℤ → Bool) (z : ℤ) → before z z ≡ true → find (λ x. list_all (before x) (z ∷ [])) (z ∷ []) ≡ Some z
leading before z e = only (λ x. list_all (before x) (z ∷ [])) z (rw (e) refl)

le_itself : (z : ℤ) → int_le z z ≡ true
le_itself z = le_is_true z z (omega (arith, ints))

lt_itself : (z : ℤ) → int_lt z z ≡ false
lt_itself z = grind (arith, ints)

-- of one number, each statistic but the variety is the number
pub statistic_of-one : (stat : Stat) (z : ℤ) → (stat ≡ Variety → ⊥) → statistic_of stat (z ∷ []) ≡ Some z
unfolding maximum_of minimum_of median_of majority_of minority_of is_lower_median
statistic_of-one Sum z other = ap Some (omega (arith, ints))
statistic_of-one Product z other = ap Some (omega (arith, ints))
statistic_of-one Maximum z other = leading (λ x y. int_le y x) z (le_itself z)
statistic_of-one Minimum z other = leading int_le z (le_itself z)
statistic_of-one Mean z other = ap Some (sym (floor_only _ (pos 1) z (inl (omega (arith, ints), omega (arith, ints), omega (arith, ints)))))
statistic_of-one Median z other = only (is_lower_median (z ∷ [])) z (rw (le_itself z, lt_itself z) refl)
statistic_of-one Majority z other =
    let m = occurrences z (z ∷ []) in
    leading (leads (z ∷ [])) z (ties (nat_lt m m) m m z z refl (omega (arith, ints)))
statistic_of-one Minority z other =
    let m = occurrences z (z ∷ []) in
    leading (trails (z ∷ [])) z (ties (nat_lt m m) m m z z refl (omega (arith, ints)))
statistic_of-one Variety z other = absurd (other refl)

-- of two nulls
pub no_numbers : (stat : Stat) (left right : Option ℤ) → left ≡ None → right ≡ None → IsExact (statistic_of stat (numbers_in (left ∷ right ∷ []))) (Ok None)
no_numbers stat left right e f = rw (e, f, statistic_of-none stat) (refl, refl)
