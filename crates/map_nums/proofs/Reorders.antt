-- The order of a list does not matter to its statistics.
use Rattle.std.proofs.Common.{◌≡◌, Bool, true, List, [], ◌∷◌, length, fold, IsPermutation, refl, sym, ◌∙◌, ap, arith, ℤ, pos, ◌+ℤ◌, ◌*ℤ◌, cond}
use Rattle.std.specs.Prelude.{int_le}
use Rattle.std.specs.List.{find, list_all}
use Rattle.std.specs.Int.{int_div_euclid}
use Rattle.std.specs.Ordering.{int_eq}
use Rattle.std.proofs.lemmas.Int.{ints}
use Rattle.std.proofs.lemmas.Bool.Decides.{same_from_decides}
use Rattle.std.proofs.lemmas.List.Elements.{All-contains}
use Rattle.std.proofs.lemmas.List.Sorted.{All-permutation, IsPermutation-sym, length_permutation, sum_by-IsPermutation}
use Rattle.std.proofs.lemmas.List.Sums.{AllPass-from_list_all, list_all-from_AllPass}
use Rattle.map_nums.specs.Leaders.{leader_of}
use Rattle.map_nums.specs.Stats.{occurrences, of_some, total_of, product_of, maximum_of, minimum_of, statistic_of}
use Rattle.map_nums.specs.declared.Stat.{Stat}
use Rattle.map_nums.specs.declared.Stat.TheVariants.{Sum, Product, Maximum, Minimum, Mean, Median, Majority, Minority, Variety}
use Rattle.map_nums.specs.declared.runs.Wanted.{Wanted}
use Rattle.map_nums.specs.declared.runs.Wanted.TheVariants.{Most, Least}
use Rattle.map_nums.proofs.Exchanges.{along_permutation}
use Rattle.map_nums.proofs.Extremes.{le_both}
use Rattle.map_nums.proofs.Leading.{is_before, leader_of-find, one_leads}
use Rattle.map_nums.proofs.Medians.{median_of-permutation}
use Rattle.map_nums.proofs.Picks.{PassesOnce, find-permutation}
use Rattle.map_nums.proofs.Times.{times_swap}
use Rattle.map_nums.proofs.Varieties.{variety_of-permutation}

-- a fold to which the order of any two elements does not matter
fold-permutation : (f : ℤ → ℤ → ℤ) → ((a x y : ℤ) → f (f a x) y ≡ f (f a y) x) → (xs ys : List ℤ) → IsPermutation xs ys → (a : ℤ) → fold f a xs ≡ fold f a ys
fold-permutation f turn =
    along_permutation (λ xs ys. (a : ℤ) → fold f a xs ≡ fold f a ys) (λ xs a. refl) (λ x xs ys h a. h (f a x)) (λ x y xs a. ap (λ b. fold f b xs) (turn a x y)) (λ xs ys zs h k a. h a ∙ k a)

pub total_of-permutation : (xs ys : List ℤ) → IsPermutation xs ys → total_of xs ≡ total_of ys
total_of-permutation xs ys perm = fold-permutation ◌+ℤ◌ (λ a x y. omega (arith, ints)) xs ys perm (pos 0)

pub product_of-permutation : (xs ys : List ℤ) → IsPermutation xs ys → product_of xs ≡ product_of ys
product_of-permutation xs ys perm = fold-permutation ◌*ℤ◌ times_swap xs ys perm (pos 1)

same_bool : (a b : Bool) → (a ≡ true → b ≡ true) → (b ≡ true → a ≡ true) → a ≡ b
same_bool a b f g = same_from_decides {P = a ≡ true} a b (λ e. e, λ e. e) (g, f)

all_there : (p : ℤ → Bool) (xs ys : List ℤ) → IsPermutation xs ys → list_all p xs ≡ true → list_all p ys ≡ true
all_there p xs ys perm h = list_all-from_AllPass p ys (All-permutation (λ x. p x ≡ true) xs ys perm (AllPass-from_list_all p xs h))

list_all_agree : (p q : ℤ → Bool) → ((x : ℤ) → p x ≡ q x) → (xs : List ℤ) → list_all p xs ≡ list_all q xs
list_all_agree p q h [] = refl
list_all_agree p q h (x ∷ xs) = rw (h x, list_all_agree p q h xs) refl

list_all-permutation : (p q : ℤ → Bool) (xs ys : List ℤ) → IsPermutation xs ys → ((x : ℤ) → p x ≡ q x) → list_all p xs ≡ list_all q ys
list_all-permutation p q xs ys perm h = same_bool (list_all p xs) (list_all p ys) (all_there p xs ys perm) (all_there p ys xs (IsPermutation-sym xs ys perm)) ∙ list_all_agree p q h ys

leads_once : (r : ℤ → ℤ → Bool) (xs : List ℤ) → ((x y : ℤ) → r x y ≡ true → r y x ≡ true → x ≡ y) → PassesOnce (λ x. list_all (r x) xs) xs
leads_once r xs one x y c d h k = one x y (All-contains (λ z. r x z ≡ true) xs y (AllPass-from_list_all (r x) xs h) d) (All-contains (λ z. r y z ≡ true) xs x (AllPass-from_list_all (r y) xs k) c)

-- what leads all others, by an order that sees only how often each value occurs
leading-permutation : (r s : ℤ → ℤ → Bool) (xs ys : List ℤ) → IsPermutation xs ys → ((x y : ℤ) → r x y ≡ s x y) → ((x y : ℤ) → r x y ≡ true → r y x ≡ true → x ≡ y) → ((x y : ℤ) → s x y ≡ true → s y x ≡ true → x ≡ y) → find (λ x. list_all (r x) xs) xs ≡ find (λ x. list_all (s x) ys) ys
leading-permutation r s xs ys perm same one there =
    find-permutation (λ x. list_all (r x) xs) (λ x. list_all (s x) ys) xs ys perm (λ x. list_all-permutation (r x) (s x) xs ys perm (same x)) (leads_once r xs one) (leads_once s ys there)

pub maximum_of-permutation : (xs ys : List ℤ) → IsPermutation xs ys → maximum_of xs ≡ maximum_of ys
unfolding maximum_of
maximum_of-permutation xs ys perm = let one = λ (x y : ℤ) (h : int_le y x ≡ true) (k : int_le x y ≡ true). le_both x y k h in leading-permutation (λ x y. int_le y x) (λ x y. int_le y x) xs ys perm (λ x y. refl) one one

pub minimum_of-permutation : (xs ys : List ℤ) → IsPermutation xs ys → minimum_of xs ≡ minimum_of ys
unfolding minimum_of
minimum_of-permutation xs ys perm = leading-permutation int_le int_le xs ys perm (λ x y. refl) le_both le_both

pub occurrences-permutation : (x : ℤ) (xs ys : List ℤ) → IsPermutation xs ys → occurrences x xs ≡ occurrences x ys
unfolding occurrences
occurrences-permutation x xs ys perm = sym (sum_by-IsPermutation (λ y. cond (int_eq y x) 1 0) xs ys perm)

pub leader_of-permutation : (w : Wanted) (xs ys : List ℤ) → IsPermutation xs ys → leader_of w xs ≡ leader_of w ys
leader_of-permutation w xs ys perm =
    leader_of-find w xs
    ∙ leading-permutation (is_before w xs) (is_before w ys) xs ys perm (λ x y. rw (occurrences-permutation x xs ys perm, occurrences-permutation y xs ys perm) refl) (one_leads w xs) (one_leads w ys)
    ∙ sym (leader_of-find w ys)

of_some_along : (xs ys : List ℤ) (y z : ℤ) → length ys ≡ length xs → y ≡ z → of_some xs y ≡ of_some ys z
of_some_along [] [] y z l e = refl
of_some_along [] (b ∷ ys) y z l e = absurd (omega arith)
of_some_along (a ∷ xs) [] y z l e = absurd (omega arith)
of_some_along (a ∷ xs) (b ∷ ys) y z l e = rw (e) refl

pub statistic_of-permutation : (s : Stat) (xs ys : List ℤ) → IsPermutation xs ys → statistic_of s xs ≡ statistic_of s ys
statistic_of-permutation Sum xs ys perm = of_some_along xs ys (total_of xs) (total_of ys) (length_permutation xs ys perm) (total_of-permutation xs ys perm)
statistic_of-permutation Product xs ys perm = of_some_along xs ys (product_of xs) (product_of ys) (length_permutation xs ys perm) (product_of-permutation xs ys perm)
statistic_of-permutation Maximum xs ys perm = maximum_of-permutation xs ys perm
statistic_of-permutation Minimum xs ys perm = minimum_of-permutation xs ys perm
statistic_of-permutation Mean xs ys perm =
    let l = length_permutation xs ys perm in
    let mean : int_div_euclid (total_of xs) (pos (length xs)) ≡ int_div_euclid (total_of ys) (pos (length ys)) = rw (total_of-permutation xs ys perm, l) refl in
    of_some_along xs ys _ _ l mean
statistic_of-permutation Median xs ys perm = median_of-permutation xs ys perm
statistic_of-permutation Majority xs ys perm = leader_of-permutation Most xs ys perm
statistic_of-permutation Minority xs ys perm = leader_of-permutation Least xs ys perm
statistic_of-permutation Variety xs ys perm = of_some_along xs ys _ _ (length_permutation xs ys perm) (ap pos (variety_of-permutation xs ys perm))
