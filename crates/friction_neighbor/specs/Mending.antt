-- Values on their way from old ones to those of the nearest sources, while places whose value may be another one stand in a queue under their costs.
use Rattle.std.specs.Prelude.{◌≡◌, ◌⊎◌, ℕ, ℤ, Bool, true, List, Option, Some}
use Rattle.std.specs.List.{Contains}
use Rattle.map_defs.specs.Nets.{Net}
use Rattle.map_defs.specs.Nearest.{IsNoGreater, BeginsAt, StepsTo}

-- c is the least of the own number of place i, where a path begins there, and of the values from where a step leads to it
pub record IsLeastOf (g : Net) (d : ℕ → ℕ) (own value : ℕ → Option ℤ) (i : ℕ) (c : Option ℤ) : Type 0 where
  pub attained : (z : ℤ) → c ≡ Some z → (BeginsAt g d i × (own i ≡ Some z)) ⊎ ((j : ℕ) × StepsTo g d j i × (value j ≡ Some z))
  pub begun : (z : ℤ) → BeginsAt g d i → own i ≡ Some z → IsNoGreater c z
  pub stepped : (j : ℕ) (z : ℤ) → StepsTo g d j i → value j ≡ Some z → IsNoGreater c z

abbrev pub Waits : (ℕ → ℕ) → List (ℕ × ℕ) → ℕ → Type 0
Waits d entries i = Contains entries (d i, i)

-- a place waits, or has the least value that the others bring it, or the one that is wanted; one that was marked waits, or has the wanted one; and each has its old value or the wanted one
pub record IsMending (g : Net) (d : ℕ → ℕ) (own wanted old value : ℕ → Option ℤ) (marked : ℕ → Bool) (entries : List (ℕ × ℕ)) : Type 0 where
  pub each : (i : ℕ) → Waits d entries i ⊎ (IsLeastOf g d own value i (value i) ⊎ (value i ≡ wanted i))
  pub called : (i : ℕ) → marked i ≡ true → Waits d entries i ⊎ (value i ≡ wanted i)
  pub kept : (i : ℕ) → (value i ≡ old i) ⊎ (value i ≡ wanted i)
