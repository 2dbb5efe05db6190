-- Numbers on their way along the steps that least costs use.
use Rattle.std.specs.Prelude.{◌≡◌, ◌⊎◌, ℕ, ◌+◌, ◌*◌, ◌<◌, ◌≤◌, ℤ, ◌≤ℤ◌, List, length, Option, Some, is_some, IsTrue, if◌then◌else◌}
use Rattle.std.specs.List.{Contains, sum_by}
use Rattle.map_nums.specs.Grids.{Cells, cell_at, cells_in, row_of, column_of, gap}
use Rattle.map_nums.specs.Numbers.{is_value}
use Rattle.map_defs.specs.Nearest.{IsNoGreater, BeginsAt, StepsTo}
use Rattle.friction_spread.specs.Costs.{net_of}
use Rattle.friction_neighbor.specs.Fields.{FieldState, cost_at, own_at}

-- the number of place c was passed on to place i, or a lesser one was before
abbrev pub IsTold : FieldState → ℤ → Cells → ℕ → ℕ → Type 0
IsTold f z values c i = StepsTo (net_of f.ground) (cost_at f) c i → IsNoGreater (cell_at values i) z

-- no number above z was passed on so far; z itself is still to be passed on from the places found
pub record IsFlooding (f : FieldState) (z : ℤ) (values : Cells) (found : List ℕ) : Type 0 where
  pub count : length values ≡ cells_in f.ground.size
  pub in_range : (i : ℕ) (w : ℤ) → cell_at values i ≡ Some w → IsTrue (is_value w)
  pub most : (i : ℕ) (w : ℤ) → cell_at values i ≡ Some w → w ≤ℤ z
  pub attained : (i : ℕ) (w : ℤ) → cell_at values i ≡ Some w → (BeginsAt (net_of f.ground) (cost_at f) i × (own_at f i ≡ Some w)) ⊎ ((j : ℕ) × StepsTo (net_of f.ground) (cost_at f) j i × (cell_at values j ≡ Some w))
  pub held : (i : ℕ) → Contains found i → cell_at values i ≡ Some z
  pub passed : (j : ℕ) (w : ℤ) → cell_at values j ≡ Some w → Contains found j ⊎ ((i : ℕ) → IsTold f w values j i)

-- values that are there stay
abbrev pub MayGrow : Cells → Cells → Type 0
MayGrow old new = (i : ℕ) (w : ℤ) → cell_at old i ≡ Some w → cell_at new i ≡ Some w

-- the places of a row that are at most one column from place c's
abbrev pub RowTold : FieldState → ℤ → Cells → ℕ → ℕ → Type 0
RowTold f z values c row = (j : ℕ) → j < cells_in f.ground.size → row_of f.ground.size j ≡ row → gap (column_of f.ground.size c) (column_of f.ground.size j) ≤ 1 → IsTold f z values c j

-- those in the columns before k
abbrev pub RowToldTo : FieldState → ℤ → Cells → ℕ → ℕ → ℕ → Type 0
RowToldTo f z values c row k = (j : ℕ) → j < cells_in f.ground.size → row_of f.ground.size j ≡ row → gap (column_of f.ground.size c) (column_of f.ground.size j) ≤ 1 → column_of f.ground.size j < k → IsTold f z values c j

-- and those in the rows before r
abbrev pub RoundToldTo : FieldState → ℤ → Cells → ℕ → ℕ → Type 0
RoundToldTo f z values c r = (j : ℕ) → j < cells_in f.ground.size → gap (row_of f.ground.size c) (row_of f.ground.size j) ≤ 1 → gap (column_of f.ground.size c) (column_of f.ground.size j) ≤ 1 → row_of f.ground.size j < r → IsTold f z values c j

abbrev pub one_if_null : Option ℤ → ℕ
one_if_null c = if is_some c then 0 else 1

-- how many places have no value
abbrev pub nulls : Cells → ℕ
nulls values = sum_by one_if_null values

-- falls with each place that is found, and with each that is done with
abbrev pub left_to_do : Cells → List ℕ → ℕ
left_to_do values found = 2 * nulls values + length found
