-- A list that is made longer with nothing.
use Rattle.std.specs.Prelude.{◌≡◌, ◌⊎◌, ℕ, ◌≤◌, List, length, Option, Some, None, slice_get}

-- each is as it was, or is nothing past the old end
pub record IsFilled {X : Type 0} (n : ℕ) (old new : List (Option X)) : Type 0 where
  pub count : length new ≡ n
  pub each : (i : ℕ) (o : Option X) → slice_get new i ≡ Some o → (slice_get old i ≡ Some o) ⊎ ((length old ≤ i) × (o ≡ None))
