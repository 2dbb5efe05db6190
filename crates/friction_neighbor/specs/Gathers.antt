-- The least of the values that steps bring to a place, one place after another.
use Rattle.std.specs.Prelude.{◌≡◌, ◌⊎◌, ℕ, ◌<◌, ◌≤◌, ℤ, Option, Some}
use Rattle.map_nums.specs.Grids.{Cells, cell_at, cells_in, row_of, column_of, gap}
use Rattle.map_defs.specs.Nearest.{IsNoGreater, StepsTo}
use Rattle.friction_spread.specs.Costs.{net_of}
use Rattle.friction_neighbor.specs.Fields.{FieldState, cost_at, own_at}
use Rattle.friction_neighbor.specs.Mending.{IsLeastOf}

-- c is the least value that the others bring to place i
abbrev pub IsLeastHere : FieldState → Cells → ℕ → Option ℤ → Type 0
IsLeastHere f values i c = IsLeastOf (net_of f.ground) (cost_at f) (own_at f) (cell_at values) i c

-- c is one of two cells, and no greater than any of them that is a number
pub record IsLesser (a b c : Option ℤ) : Type 0 where
  pub is : (c ≡ a) ⊎ (c ≡ b)
  pub first : (z : ℤ) → a ≡ Some z → IsNoGreater c z
  pub second : (z : ℤ) → b ≡ Some z → IsNoGreater c z

-- c is `best` or the value of a place from which a step leads to i, and no greater than `best`
pub record IsGathered (f : FieldState) (values : Cells) (i : ℕ) (best c : Option ℤ) : Type 0 where
  pub attained : (z : ℤ) → c ≡ Some z → (best ≡ Some z) ⊎ ((j : ℕ) × StepsTo (net_of f.ground) (cost_at f) j i × (cell_at values j ≡ Some z))
  pub most : (z : ℤ) → best ≡ Some z → IsNoGreater c z

-- c is no greater than the value of place j, if a step leads from there to i
abbrev pub IsBrought : FieldState → Cells → ℕ → Option ℤ → ℕ → Type 0
IsBrought f values i c j = (z : ℤ) → StepsTo (net_of f.ground) (cost_at f) j i → cell_at values j ≡ Some z → IsNoGreater c z

-- nor than those of a row that are at most one column from i's
abbrev pub RowBrought : FieldState → Cells → ℕ → Option ℤ → ℕ → Type 0
RowBrought f values i c row = (j : ℕ) → j < cells_in f.ground.size → row_of f.ground.size j ≡ row → gap (column_of f.ground.size i) (column_of f.ground.size j) ≤ 1 → IsBrought f values i c j

-- those in the columns before k
abbrev pub RowBroughtTo : FieldState → Cells → ℕ → Option ℤ → ℕ → ℕ → Type 0
RowBroughtTo f values i c row k = (j : ℕ) → j < cells_in f.ground.size → row_of f.ground.size j ≡ row → gap (column_of f.ground.size i) (column_of f.ground.size j) ≤ 1 → column_of f.ground.size j < k → IsBrought f values i c j

-- and those in the rows before r
abbrev pub RoundBroughtTo : FieldState → Cells → ℕ → Option ℤ → ℕ → Type 0
RoundBroughtTo f values i c r = (j : ℕ) → j < cells_in f.ground.size → gap (row_of f.ground.size i) (row_of f.ground.size j) ≤ 1 → gap (column_of f.ground.size i) (column_of f.ground.size j) ≤ 1 → row_of f.ground.size j < r → IsBrought f values i c j
