-- The terms of an operation, one by one.
use Rattle.std.proofs.Common.{◌≡◌, inl, inr, ◌≤◌, ℕ, List, length, Option, Some, None, option_map, refl}
use Rattle.std.specs.Prelude.{slice_get}
use Rattle.std.proofs.lemmas.Option.{slice_get_cases}

-- where a look gives no element, there are no more
pub past_last : {A B : Type 0} (f : A → B) (xs : List B) (k : ℕ) (r : Option A) → option_map f r ≡ slice_get xs k → ((x : A) → r ≡ Some x → ⊥) → length xs ≤ k
past_last {B} f xs k None e none = elim (slice_get_cases xs k).1 [
  | inl h ↦ absurd (let there = h.2 in cc)
  | inr h ↦ h.0
]
past_last f xs k (Some x) e none = absurd (none x refl)
