-- The statistics of two numbers.
use Rattle.std.proofs.Common.{◌≡◌, ◌⊎◌, inl, inr, ℕ, zero, suc, ◌+◌, Bool, true, false, cond, ◌&&◌, ◌||◌, ◌==◌, List, [], ◌∷◌, Option, Some, ℤ, ◌≤ℤ◌, ◌<ℤ◌, refl, sym, ◌∙◌, ap, arith}
use Rattle.std.specs.Prelude.{int_le, nat_lt}
use Rattle.std.specs.List.{find, list_all}
use Rattle.std.specs.List.Sorted.{IsPermutation, IsSorted}
use Rattle.std.specs.Ordering.{int_cmp, int_eq, is_lt, max_by_ordering, min_by_ordering}
use Rattle.std.proofs.lemmas.Int.{ints, by_lt_z}
use Rattle.std.proofs.lemmas.Bool.Decides.{nat_tests}
use Rattle.std.proofs.lemmas.List.Sorted.{IsPermutation-refl, IsPermutation-swap}
use Rattle.map_nums.specs.Stats.{statistic_of, occurrences, maximum_of, minimum_of, median_of, majority_of, minority_of, leads, trails}
use Rattle.map_nums.specs.declared.Stat.{Stat}
use Rattle.map_nums.specs.declared.Stat.TheVariants.{Minimum, Median, Majority, Minority}
use Rattle.map_nums.proofs.Ascending.{equals_itself}
use Rattle.map_nums.proofs.Extremes.{maximum_from_reduce, minimum_from_reduce}
use Rattle.map_nums.proofs.Medians.{median_from_sorted}
use Rattle.map_nums.proofs.Reorders.{statistic_of-permutation}

greater_right : (a b : ℤ) → a <ℤ b → max_by_ordering (int_cmp a b) a b ≡ b
greater_right a b l = grind (arith, ints)

greater_left : (a b : ℤ) → b ≤ℤ a → max_by_ordering (int_cmp a b) a b ≡ a
greater_left a b l = grind (arith, ints)

lesser_right : (a b : ℤ) → b <ℤ a → min_by_ordering (int_cmp a b) a b ≡ b
lesser_right a b l = grind (arith, ints)

lesser_left : (a b : ℤ) → a ≤ℤ b → min_by_ordering (int_cmp a b) a b ≡ a
lesser_left a b l = grind (arith, ints)

pub maximum_of-right : (a b : ℤ) → a <ℤ b → maximum_of (a ∷ b ∷ []) ≡ Some b
maximum_of-right a b l = sym (maximum_from_reduce (a ∷ b ∷ [])) ∙ ap Some (greater_right a b l)

pub maximum_of-left : (a b : ℤ) → b ≤ℤ a → maximum_of (a ∷ b ∷ []) ≡ Some a
maximum_of-left a b l = sym (maximum_from_reduce (a ∷ b ∷ [])) ∙ ap Some (greater_left a b l)

pub minimum_of-right : (a b : ℤ) → b <ℤ a → minimum_of (a ∷ b ∷ []) ≡ Some b
minimum_of-right a b l = sym (minimum_from_reduce (a ∷ b ∷ [])) ∙ ap Some (lesser_right a b l)

pub minimum_of-left : (a b : ℤ) → a ≤ℤ b → minimum_of (a ∷ b ∷ []) ≡ Some a
minimum_of-left a b l = sym (minimum_from_reduce (a ∷ b ∷ [])) ∙ ap Some (lesser_left a b l)

-- ---- of two numbers, the least is in the lower middle and leads

ascending : (a b : ℤ) → a ≤ℤ b → IsSorted int_cmp (a ∷ b ∷ [])
ascending a b l zero d m n = not_above a b l
  where
    not_above : (a b : ℤ) → a ≤ℤ b → is_lt (int_cmp b a) ≡ false
    not_above a b l = grind (arith, ints)
ascending a b l (suc k) d m n = absurd (omega (arith, n))

median_of-left : (a b : ℤ) → a ≤ℤ b → median_of (a ∷ b ∷ []) ≡ Some a
median_of-left a b l = median_from_sorted (a ∷ b ∷ []) (a ∷ b ∷ []) (IsPermutation-refl (a ∷ b ∷ [])) (ascending a b l) 0 (omega arith) refl

-- each of two numbers occurs as often as the other
same_tests : (a b : ℤ) → int_eq b a ≡ int_eq a b
same_tests a b = grind (arith, ints)

alike : (a b : ℤ) → occurrences b (a ∷ b ∷ []) ≡ occurrences a (a ∷ b ∷ [])
unfolding occurrences
alike a b = rw (equals_itself a, equals_itself b, same_tests a b) (either_way (int_eq a b))
  where
    either_way : (e : Bool) → 0 + cond e 1 0 + 1 ≡ 1 + cond e 1 0
    either_way true = refl
    either_way false = refl

pub ties : (t : Bool) (m n : ℕ) (x y : ℤ) → n ≡ m → x ≤ℤ y → (t || ((n == m) && int_le x y)) ≡ true
ties true m n x y e l = refl
ties false m n x y e l = grind (arith, nat_tests, ints)

first : (p : ℤ → Bool) (a b : ℤ) → p a ≡ true → find p (a ∷ b ∷ []) ≡ Some a
first p a b e = rw (e) refl

leading : (before : ℤ → ℤ → Bool) (a b : ℤ) → before a a ≡ true → before a b ≡ true → find (λ x. list_all (before x) (a ∷ b ∷ [])) (a ∷ b ∷ []) ≡ Some a
leading before a b e f = first (λ x. list_all (before x) (a ∷ b ∷ [])) a b (rw (e, f) refl)

majority_of-left : (a b : ℤ) → a ≤ℤ b → majority_of (a ∷ b ∷ []) ≡ Some a
unfolding majority_of
majority_of-left a b l =
    let xs = a ∷ b ∷ [] in
    let m = occurrences a xs in
    let n = occurrences b xs in
    leading (leads xs) a b (ties (nat_lt m m) m m a a refl (omega (arith, ints))) (ties (nat_lt n m) m n a b (alike a b) l)

minority_of-left : (a b : ℤ) → a ≤ℤ b → minority_of (a ∷ b ∷ []) ≡ Some a
unfolding minority_of
minority_of-left a b l =
    let xs = a ∷ b ∷ [] in
    let m = occurrences a xs in
    let n = occurrences b xs in
    leading (trails xs) a b (ties (nat_lt m m) m m a a refl (omega (arith, ints))) (ties (nat_lt m n) m n a b (alike a b) l)

turned : (a b : ℤ) → IsPermutation (a ∷ b ∷ []) (b ∷ a ∷ [])
turned a b = IsPermutation-swap (a ∷ b ∷ []) (b ∷ a ∷ []) 0 1 (omega arith) (omega arith) refl

under : (a b : ℤ) → b <ℤ a → b ≤ℤ a
under a b l = omega (arith, ints)

-- what is the same in either order, and the first of two numbers in order, is the least of two
least_of_two : (f : List ℤ → Option ℤ) → ((a b : ℤ) → f (a ∷ b ∷ []) ≡ f (b ∷ a ∷ [])) → ((a b : ℤ) → a ≤ℤ b → f (a ∷ b ∷ []) ≡ Some a) → (a b : ℤ) → f (a ∷ b ∷ []) ≡ minimum_of (a ∷ b ∷ [])
least_of_two f either_way left a b = by_lt_z b a
    (λ l. either_way a b ∙ left b a (under a b l) ∙ sym (minimum_of-right a b l))
    (λ l. left a b l ∙ sym (minimum_of-left a b l))

median_of-two : (a b : ℤ) → median_of (a ∷ b ∷ []) ≡ minimum_of (a ∷ b ∷ [])
median_of-two = least_of_two median_of (λ a b. statistic_of-permutation Median (a ∷ b ∷ []) (b ∷ a ∷ []) (turned a b)) median_of-left

majority_of-two : (a b : ℤ) → majority_of (a ∷ b ∷ []) ≡ minimum_of (a ∷ b ∷ [])
majority_of-two = least_of_two majority_of (λ a b. statistic_of-permutation Majority (a ∷ b ∷ []) (b ∷ a ∷ []) (turned a b)) majority_of-left

minority_of-two : (a b : ℤ) → minority_of (a ∷ b ∷ []) ≡ minimum_of (a ∷ b ∷ [])
minority_of-two = least_of_two minority_of (λ a b. statistic_of-permutation Minority (a ∷ b ∷ []) (b ∷ a ∷ []) (turned a b)) minority_of-left

pub is_least : (stat : Stat) (a b : ℤ) → (stat ≡ Minimum) ⊎ ((stat ≡ Median) ⊎ ((stat ≡ Majority) ⊎ (stat ≡ Minority))) → statistic_of stat (a ∷ b ∷ []) ≡ minimum_of (a ∷ b ∷ [])
is_least stat a b (inl e) = rw (e) refl
is_least stat a b (inr (inl e)) = rw (e) (median_of-two a b)
is_least stat a b (inr (inr (inl e))) = rw (e) (majority_of-two a b)
is_least stat a b (inr (inr (inr e))) = rw (e) (minority_of-two a b)
