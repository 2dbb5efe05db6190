-- How many different values there are, counted at the last place of each.
use Rattle.std.proofs.Common.{◌≡◌, ◌⊎◌, inl, inr, ℕ, ◌+◌, ◌<◌, Bool, true, false, cond, ◌||◌, List, ◌∷◌, length, get_or, drop, IsPermutation, refl, sym, ◌∙◌, ap, arith, ℤ, pos}
use Rattle.std.specs.List.{list_any}
use Rattle.std.specs.List.Sorted.{IsSorted}
use Rattle.std.specs.Ordering.{int_cmp, int_eq}
use Rattle.std.proofs.lemmas.List.{at_drop_more}
use Rattle.map_nums.specs.Leaders.{IsSameAsNext}
use Rattle.map_nums.specs.Stats.{variety_of}
use Rattle.map_nums.proofs.Ascending.{next_is_later, last_is_not_later, same_or_not, differs}
use Rattle.map_nums.proofs.Exchanges.{along_permutation}

-- a value that stands again at the next place
pub variety_on : (ys : List ℤ) (i count : ℕ) → i < length ys → IsSameAsNext ys i → count + variety_of (drop i ys) ≡ variety_of ys → count + variety_of (drop (i + 1) ys) ≡ variety_of ys
variety_on ys i count h s e =
    let more : variety_of (drop i ys) ≡ cond (list_any (λ y. int_eq y (get_or ys i (pos 0))) (drop (i + 1) ys)) 0 1 + variety_of (drop (i + 1) ys) = at_drop_more variety_of ys i (pos 0) h in
    omega (arith, rw (next_is_later ys i s) at more)

-- the last place of a value
pub variety_last : (ys : List ℤ) → IsSorted int_cmp ys → (i count : ℕ) → i < length ys → (IsSameAsNext ys i → ⊥) → count + variety_of (drop i ys) ≡ variety_of ys → count + 1 + variety_of (drop (i + 1) ys) ≡ variety_of ys
variety_last ys sorted i count h last e =
    let more : variety_of (drop i ys) ≡ cond (list_any (λ y. int_eq y (get_or ys i (pos 0))) (drop (i + 1) ys)) 0 1 + variety_of (drop (i + 1) ys) = at_drop_more variety_of ys i (pos 0) h in
    omega (arith, rw (last_is_not_later ys sorted i h last) at more)

-- ---- in another order

or_swap : (a b c : Bool) → (a || (b || c)) ≡ (b || (a || c))
or_swap true true c = refl
or_swap true false c = refl
or_swap false b c = refl

record SameVariety (xs ys : List ℤ) : Type 0 where
  pub variety : variety_of xs ≡ variety_of ys
  pub members : (z : ℤ) → list_any (λ y. int_eq y z) xs ≡ list_any (λ y. int_eq y z) ys

under_first : (x : ℤ) (xs ys : List ℤ) → SameVariety xs ys → SameVariety (x ∷ xs) (x ∷ ys)
under_first x xs ys s = record {
  variety = rw (s.members x, s.variety) refl;
  members = λ z. ap (λ b. int_eq x z || b) (s.members z);
}

two_first : (x y : ℤ) (xs : List ℤ) → (x ≡ y) ⊎ (x ≡ y → ⊥) → variety_of (x ∷ y ∷ xs) ≡ variety_of (y ∷ x ∷ xs)
two_first x y xs (inl e) = ap (λ z. variety_of (x ∷ z ∷ xs)) (sym e) ∙ ap (λ z. variety_of (z ∷ x ∷ xs)) e
two_first x y xs (inr n) = rw (differs y x (λ e. n (sym e)), differs x y n) (omega arith)

turn_first : (x y : ℤ) (xs : List ℤ) → SameVariety (x ∷ y ∷ xs) (y ∷ x ∷ xs)
turn_first x y xs = record { variety = two_first x y xs (same_or_not x y); members = λ z. or_swap (int_eq x z) (int_eq y z) (list_any (λ w. int_eq w z) xs) }

-- the order of a list does not matter to its variety
pub variety_of-permutation : (xs ys : List ℤ) → IsPermutation xs ys → variety_of xs ≡ variety_of ys
variety_of-permutation xs ys perm =
    (along_permutation SameVariety (λ l. record { variety = refl; members = λ z. refl }) under_first turn_first (λ k l m p q. record { variety = p.variety ∙ q.variety; members = λ z. p.members z ∙ q.members z }) xs ys perm).variety
