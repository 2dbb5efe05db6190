-- Rows of the places round place c: what was done at those in rows and columns before some.
use Rattle.std.specs.Prelude.{◌≡◌, ◌⊎◌, ℕ, ◌+◌, ◌<◌, ◌≤◌, List}
use Rattle.map_nums.specs.Grids.{Size, cells_in, row_of, column_of, gap}
use Rattle.map_defs.specs.Nets.{Net}
use Rattle.least_costs.specs.Queue.{IsQueued, IsOfferedBy, IsRisen}
use Rattle.least_costs.specs.Filling.{IsRelaxed}

-- the places of a row that are at most one column from c's
abbrev pub RowQueued : Net → Size → (ℕ → ℕ) → List (ℕ × ℕ) → ℕ → ℕ → Type 0
RowQueued g s d entries c row = (j : ℕ) → j < cells_in s → row_of s j ≡ row → gap (column_of s c) (column_of s j) ≤ 1 → IsQueued g d entries j

abbrev pub RowQueuedTo : Net → Size → (ℕ → ℕ) → List (ℕ × ℕ) → ℕ → ℕ → ℕ → Type 0
RowQueuedTo g s d entries c row k = (j : ℕ) → j < cells_in s → row_of s j ≡ row → gap (column_of s c) (column_of s j) ≤ 1 → column_of s j < k → IsQueued g d entries j

abbrev pub RoundQueuedTo : Net → Size → (ℕ → ℕ) → List (ℕ × ℕ) → ℕ → ℕ → Type 0
RoundQueuedTo g s d entries c r = (j : ℕ) → j < cells_in s → gap (row_of s c) (row_of s j) ≤ 1 → gap (column_of s c) (column_of s j) ≤ 1 → row_of s j < r → IsQueued g d entries j

abbrev pub RoundQueued : Net → Size → (ℕ → ℕ) → List (ℕ × ℕ) → ℕ → Type 0
RoundQueued g s d entries c = (j : ℕ) → j < cells_in s → gap (row_of s c) (row_of s j) ≤ 1 → gap (column_of s c) (column_of s j) ≤ 1 → IsQueued g d entries j

abbrev pub RowOffered : Net → Size → (ℕ → ℕ) → List (ℕ × ℕ) → ℕ → ℕ → Type 0
RowOffered g s d entries c row = (j : ℕ) → j < cells_in s → row_of s j ≡ row → gap (column_of s c) (column_of s j) ≤ 1 → IsOfferedBy g d entries c j

abbrev pub RowOfferedTo : Net → Size → (ℕ → ℕ) → List (ℕ × ℕ) → ℕ → ℕ → ℕ → Type 0
RowOfferedTo g s d entries c row k = (j : ℕ) → j < cells_in s → row_of s j ≡ row → gap (column_of s c) (column_of s j) ≤ 1 → column_of s j < k → IsOfferedBy g d entries c j

abbrev pub RoundOfferedTo : Net → Size → (ℕ → ℕ) → List (ℕ × ℕ) → ℕ → ℕ → Type 0
RoundOfferedTo g s d entries c r = (j : ℕ) → j < cells_in s → gap (row_of s c) (row_of s j) ≤ 1 → gap (column_of s c) (column_of s j) ≤ 1 → row_of s j < r → IsOfferedBy g d entries c j

abbrev pub RoundOffered : Net → Size → (ℕ → ℕ) → List (ℕ × ℕ) → ℕ → Type 0
RoundOffered g s d entries c = (j : ℕ) → j < cells_in s → gap (row_of s c) (row_of s j) ≤ 1 → gap (column_of s c) (column_of s j) ≤ 1 → IsOfferedBy g d entries c j

-- the same for places whose equation may have risen
abbrev pub RowRisen : Net → Size → ℕ → (ℕ → ℕ) → List (ℕ × ℕ) → ℕ → ℕ → Type 0
RowRisen g s v d entries c row = (j : ℕ) → j < cells_in s → row_of s j ≡ row → gap (column_of s c) (column_of s j) ≤ 1 → IsRisen g v d entries c j

abbrev pub RowRisenTo : Net → Size → ℕ → (ℕ → ℕ) → List (ℕ × ℕ) → ℕ → ℕ → ℕ → Type 0
RowRisenTo g s v d entries c row k = (j : ℕ) → j < cells_in s → row_of s j ≡ row → gap (column_of s c) (column_of s j) ≤ 1 → column_of s j < k → IsRisen g v d entries c j

abbrev pub RoundRisenTo : Net → Size → ℕ → (ℕ → ℕ) → List (ℕ × ℕ) → ℕ → ℕ → Type 0
RoundRisenTo g s v d entries c r = (j : ℕ) → j < cells_in s → gap (row_of s c) (row_of s j) ≤ 1 → gap (column_of s c) (column_of s j) ≤ 1 → row_of s j < r → IsRisen g v d entries c j

abbrev pub RoundRisen : Net → Size → ℕ → (ℕ → ℕ) → List (ℕ × ℕ) → ℕ → Type 0
RoundRisen g s v d entries c = (j : ℕ) → j < cells_in s → gap (row_of s c) (row_of s j) ≤ 1 → gap (column_of s c) (column_of s j) ≤ 1 → IsRisen g v d entries c j

-- ---- an equation, part by part

-- e is the least of `best` and the costs through some places
pub record IsLowered (g : Net) (d : ℕ → ℕ) (i best e : ℕ) : Type 0 where
  pub most : e ≤ best
  pub attained : (e ≡ best) ⊎ ((j : ℕ) × (e ≡ d j + g.step j i))

abbrev pub RowLowered : Net → Size → (ℕ → ℕ) → ℕ → ℕ → ℕ → Type 0
RowLowered g s d i row e = (j : ℕ) → j < cells_in s → row_of s j ≡ row → gap (column_of s i) (column_of s j) ≤ 1 → e ≤ d j + g.step j i

abbrev pub RowLoweredTo : Net → Size → (ℕ → ℕ) → ℕ → ℕ → ℕ → ℕ → Type 0
RowLoweredTo g s d i row k e = (j : ℕ) → j < cells_in s → row_of s j ≡ row → gap (column_of s i) (column_of s j) ≤ 1 → column_of s j < k → e ≤ d j + g.step j i

abbrev pub RoundLoweredTo : Net → Size → (ℕ → ℕ) → ℕ → ℕ → ℕ → Type 0
RoundLoweredTo g s d i r e = (j : ℕ) → j < cells_in s → gap (row_of s i) (row_of s j) ≤ 1 → gap (column_of s i) (column_of s j) ≤ 1 → row_of s j < r → e ≤ d j + g.step j i

-- ---- costs through place c that are no longer below others

abbrev pub RowRelaxed : Net → Size → (ℕ → ℕ) → ℕ → ℕ → Type 0
RowRelaxed g s d c row = (j : ℕ) → j < cells_in s → row_of s j ≡ row → gap (column_of s c) (column_of s j) ≤ 1 → IsRelaxed g d c j

abbrev pub RowRelaxedTo : Net → Size → (ℕ → ℕ) → ℕ → ℕ → ℕ → Type 0
RowRelaxedTo g s d c row k = (j : ℕ) → j < cells_in s → row_of s j ≡ row → gap (column_of s c) (column_of s j) ≤ 1 → column_of s j < k → IsRelaxed g d c j

abbrev pub RoundRelaxedTo : Net → Size → (ℕ → ℕ) → ℕ → ℕ → Type 0
RoundRelaxedTo g s d c r = (j : ℕ) → j < cells_in s → gap (row_of s c) (row_of s j) ≤ 1 → gap (column_of s c) (column_of s j) ≤ 1 → row_of s j < r → IsRelaxed g d c j
