-- What a push and a pop do to what stands in the queue.
use Rattle.std.proofs.Common.{◌≡◌, ℕ, zero, suc, ◌+◌, ◌≤◌, List, ◌∷◌, length, refl, sym, arith, inl, inr, subst}
use Rattle.std.specs.Prelude.{◌⊎◌}
use Rattle.std.specs.List.{Contains, All}
use Rattle.std.specs.List.Sorted.{IsPermutation}
use Rattle.std.proofs.lemmas.List.Sorted.{Contains-permutation, length_permutation}
use Rattle.least_costs.specs.Queue.{IsKept}

-- in front of a list
pub contains_front : (x y : ℕ × ℕ) (xs : List (ℕ × ℕ)) → Contains (y ∷ xs) x → (x ≡ y) ⊎ Contains xs x
contains_front x y xs (zero, l, e) = inl (sym e)
contains_front x y xs (suc i, l, e) = inr (i, omega arith, e)

pub pushed_kept : (y : ℕ × ℕ) (old new : List (ℕ × ℕ)) → IsPermutation (y ∷ old) new → IsKept old new
pushed_kept y old new p x h = Contains-permutation (y ∷ old) new x p (suc h.0, omega (arith, h.1), h.2)

pub pushed_there : (y : ℕ × ℕ) (old new : List (ℕ × ℕ)) → IsPermutation (y ∷ old) new → Contains new y
pushed_there y old new p = Contains-permutation (y ∷ old) new y p (0, omega arith, refl)

pub pushed_length : (y : ℕ × ℕ) (old new : List (ℕ × ℕ)) → IsPermutation (y ∷ old) new → length new ≤ length old + 1
pushed_length y old new p = omega (arith, length_permutation (y ∷ old) new p)

pub popped_length : (y : ℕ × ℕ) (old new : List (ℕ × ℕ)) → IsPermutation old (y ∷ new) → length new + 1 ≡ length old
popped_length y old new p = omega (arith, length_permutation old (y ∷ new) p)

-- an entry that isn't the popped one is left
pub popped_left : (x y : ℕ × ℕ) (old new : List (ℕ × ℕ)) → IsPermutation old (y ∷ new) → Contains old x → (x ≡ y → ⊥) → Contains new x
popped_left x y old new p h n = elim (contains_front x y new (Contains-permutation old (y ∷ new) x p h)) as (λ _. Contains new x) [ inl e ↦ absurd (n e) | inr h ↦ h ]

-- each entry has at least the least key
pub key_least : (key : ℕ) (x : ℕ × ℕ) (entries : List (ℕ × ℕ)) → All (λ (y : ℕ × ℕ). key ≤ y.0) entries → Contains entries x → key ≤ x.0
key_least key x entries all h = let P : ℕ × ℕ → Type 0 = λ y. key ≤ y.0 in subst P h.2 (all h.0 x h.1)
