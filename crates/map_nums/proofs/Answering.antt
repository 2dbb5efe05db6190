-- A statistic as the answer of a call.
use Rattle.std.proofs.Common.{◌≡◌, List, [], ◌∷◌, length, None, Ok, refl, arith, ℤ}
use Rattle.map_nums.specs.Exact.{IsExact}
use Rattle.map_nums.specs.Stats.{statistic_of, maximum_of, minimum_of, median_of, majority_of, minority_of}
use Rattle.map_nums.specs.declared.Stat.{Stat}
use Rattle.map_nums.specs.declared.Stat.TheVariants.{Sum, Product, Maximum, Minimum, Mean, Median, Majority, Minority, Variety}

no_statistic : (s : Stat) → statistic_of s [] ≡ None
unfolding maximum_of minimum_of median_of majority_of minority_of
no_statistic Sum = refl
no_statistic Product = refl
no_statistic Maximum = refl
no_statistic Minimum = refl
no_statistic Mean = refl
no_statistic Median = refl
no_statistic Majority = refl
no_statistic Minority = refl
no_statistic Variety = refl

-- an empty list has no statistic
pub empty_answer : (s : Stat) (xs : List ℤ) → length xs ≡ 0 → IsExact (statistic_of s xs) (Ok None)
empty_answer s [] e = rw (no_statistic s) (refl, refl)
empty_answer s (x ∷ xs) e = absurd (omega arith)
