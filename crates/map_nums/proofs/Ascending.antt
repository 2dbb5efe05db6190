-- Equal values stand side by side in a list in ascending order.
use Rattle.std.proofs.Common.{◌≡◌, ◌≢◌, ◌⊎◌, inl, inr, ℕ, ◌+◌, ◌<◌, Bool, true, false, cond, List, [], length, get_or, take, drop, refl, sym, ◌∙◌, ap, arith, ℤ, pos}
use Rattle.std.specs.List.{list_any}
use Rattle.std.specs.List.Sorted.{IsSorted}
use Rattle.std.specs.Ordering.{int_cmp, int_eq}
use Rattle.std.proofs.lemmas.Int.{ints}
use Rattle.std.proofs.lemmas.Bool.{false_from_ne_true}
use Rattle.std.proofs.lemmas.Bool.Decides.{Decides-int_eq}
use Rattle.std.proofs.lemmas.List.{get_or-take, get_or-drop, length-take-le, length-drop, get_or_default}
use Rattle.std.proofs.lemmas.List.Folds.{list_any_at, list_any_none}
use Rattle.std.proofs.lemmas.List.Sums.{count_by_more_yes, sum_by-take-drop}
use Rattle.map_nums.specs.Leaders.{IsSameAsNext}
use Rattle.map_nums.specs.Stats.{occurrences}
use Rattle.map_nums.proofs.Medians.{rises}
use Rattle.map_nums.proofs.Picks.{count_by-none}

pub equals_itself : (x : ℤ) → int_eq x x ≡ true
equals_itself x = (Decides-int_eq x x).1 refl

pub differs : (x y : ℤ) → x ≢ y → int_eq x y ≡ false
differs x y h = false_from_ne_true (int_eq x y) (λ t. h ((Decides-int_eq x y).0 t))

same_here : (x y : ℤ) (b : Bool) → int_eq x y ≡ b → (x ≡ y) ⊎ (x ≢ y)
same_here x y true e = inl ((Decides-int_eq x y).0 e)
same_here x y false e = inr (λ s. let t : int_eq x y ≡ true = (Decides-int_eq x y).1 s in cc)

pub same_or_not : (x y : ℤ) → (x ≡ y) ⊎ (x ≢ y)
same_or_not x y = same_here x y (int_eq x y) refl

-- one place more of a value's run
pub occurrences_more : (ys : List ℤ) (i : ℕ) → i < length ys → occurrences (get_or ys i (pos 0)) (take (i + 1) ys) ≡ occurrences (get_or ys i (pos 0)) (take i ys) + 1
unfolding occurrences
occurrences_more ys i h = count_by_more_yes (λ y. int_eq y (get_or ys i (pos 0))) ys i (pos 0) h (equals_itself (get_or ys i (pos 0)))

pub occurrences_none : (x : ℤ) → 0 ≡ occurrences x []
unfolding occurrences
occurrences_none x = refl

pub next_is_later : (ys : List ℤ) (i : ℕ) → IsSameAsNext ys i → list_any (λ y. int_eq y (get_or ys i (pos 0))) (drop (i + 1) ys) ≡ true
next_is_later ys i s =
    let l : 0 < length (drop (i + 1) ys) = omega (arith, length-drop (i + 1) ys, s.0) in
    let z : i + 1 + 0 ≡ i + 1 = omega arith in
    let e : get_or (drop (i + 1) ys) 0 (pos 0) ≡ get_or ys i (pos 0) = get_or-drop (i + 1) ys 0 (pos 0) ∙ ap (λ j. get_or ys j (pos 0)) z ∙ s.1 in
    list_any_at (λ y. int_eq y (get_or ys i (pos 0))) (drop (i + 1) ys) 0 (pos 0) l (rw (e) (equals_itself (get_or ys i (pos 0))))

module _ (ys : List ℤ) (sorted : IsSorted int_cmp ys) (i : ℕ) (here : i < length ys) (last : IsSameAsNext ys i → ⊥) where
  later_differs : (j : ℕ) → i < j → j < length ys → get_or ys j (pos 0) ≢ get_or ys i (pos 0)
  later_differs j l h e =
      let a = rises ys sorted i (i + 1) (pos 0) (omega arith) (omega arith) in
      let b = rises ys sorted (i + 1) j (pos 0) (omega arith) h in
      last (omega arith, omega (arith, ints, e))

  earlier_differs : (k : ℕ) → i + 1 < length ys → k < i + 1 → get_or ys k (pos 0) ≢ get_or ys (i + 1) (pos 0)
  earlier_differs k h l e =
      let a = rises ys sorted k i (pos 0) (omega arith) here in
      let b = rises ys sorted i (i + 1) (pos 0) (omega arith) h in
      last (h, omega (arith, ints, e))

  rest_differs : (k : ℕ) (d : ℤ) → k < length (drop (i + 1) ys) → int_eq (get_or (drop (i + 1) ys) k d) (get_or ys i (pos 0)) ≡ false
  rest_differs k d l =
      let j : i + 1 + k < length ys = omega (arith, length-drop (i + 1) ys) in
      rw (get_or-drop (i + 1) ys k d, get_or_default ys (i + 1 + k) d (pos 0) j) (differs _ _ (later_differs (i + 1 + k) (omega arith) j))

  -- the run that ends at i has all places of its value
  pub occurrences_whole : occurrences (get_or ys i (pos 0)) (take (i + 1) ys) ≡ occurrences (get_or ys i (pos 0)) ys
  unfolding occurrences
  occurrences_whole =
      let p = λ (y : ℤ). int_eq y (get_or ys i (pos 0)) in
      omega (arith, sum_by-take-drop (λ y. cond (p y) 1 0) ys (i + 1), count_by-none p (drop (i + 1) ys) rest_differs)

  -- the next value does not stand before
  pub occurrences_fresh : i + 1 < length ys → 0 ≡ occurrences (get_or ys (i + 1) (pos 0)) (take (i + 1) ys)
  unfolding occurrences
  occurrences_fresh h =
      let p = λ (y : ℤ). int_eq y (get_or ys (i + 1) (pos 0)) in
      sym (count_by-none p (take (i + 1) ys) (λ k d l.
      let j : k < i + 1 = omega (arith, length-take-le (i + 1) ys (omega arith)) in
      let j' : k < length ys = omega arith in
      rw (get_or-take (i + 1) ys k d j, get_or_default ys k d (pos 0) j') (differs _ _ (earlier_differs k h j))))

  pub last_is_not_later : list_any (λ y. int_eq y (get_or ys i (pos 0))) (drop (i + 1) ys) ≡ false
  last_is_not_later = list_any_none (λ y. int_eq y (get_or ys i (pos 0))) (drop (i + 1) ys) rest_differs
