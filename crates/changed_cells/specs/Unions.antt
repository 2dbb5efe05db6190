-- The places that pass a test, and those at which one of two operands changed.
use Rattle.std.specs.Prelude.{◌≡◌, ◌≢◌, ℕ, ◌<◌, ◌⊎◌, Bool, true, false, List, [], ◌∷◌, ◌++◌, length, slice_index_or}
use Rattle.map_nums.specs.Grids.{Size, cells_in}
use Rattle.map_defs.specs.Differences.{has_changed}
use Rattle.layer_tiles.specs.Changes.{ChangeState, cells_before}
use Rattle.changed_cells.specs.Changed.{HoldsPlace}

-- the places of a grid that pass p, each once
pub record AreAllPlaces (s : Size) (p : ℕ → Bool) (found : List ℕ) : Type 0 where
  pub within : (k : ℕ) → k < length found → slice_index_or found k 0 < cells_in s
  pub pass : (k : ℕ) → k < length found → p (slice_index_or found k 0) ≡ true
  pub all : (i : ℕ) → i < cells_in s → p i ≡ true → HoldsPlace found i
  pub apart : (j k : ℕ) → j < k → k < length found → slice_index_or found j 0 ≢ slice_index_or found k 0

-- a cell of one of two operands changed
abbrev pub both_changed : ChangeState → ChangeState → ℕ → Bool
both_changed one other = has_changed (cells_before one ∷ cells_before other ∷ []) (one.cells ∷ other.cells ∷ [])

-- a place was added unless it passes
abbrev pub IsAddedUnless : Bool → ℕ → List ℕ → List ℕ → Type 0
IsAddedUnless passes at old new = ((passes ≡ true) × (new ≡ old)) ⊎ ((passes ≡ false) × (new ≡ old ++ at ∷ []))

-- those that pass p, and then the first k of a list that do not
pub record AreJoinedTo (s : Size) (p : ℕ → Bool) (more : List ℕ) (k : ℕ) (found : List ℕ) : Type 0 where
  pub within : (m : ℕ) → m < length found → slice_index_or found m 0 < cells_in s
  pub each : (m : ℕ) → m < length found → (p (slice_index_or found m 0) ≡ true) ⊎ ((j : ℕ) × (j < k) × (slice_index_or more j 0 ≡ slice_index_or found m 0))
  pub first : (i : ℕ) → i < cells_in s → p i ≡ true → HoldsPlace found i
  pub rest : (j : ℕ) → j < k → HoldsPlace found (slice_index_or more j 0)
  pub apart : (a b : ℕ) → a < b → b < length found → slice_index_or found a 0 ≢ slice_index_or found b 0
