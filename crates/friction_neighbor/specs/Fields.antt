-- Sources, frictions and least costs of a map, and values along the steps that least costs use.
use Rattle.std.specs.Prelude.{◌≡◌, ℕ, ◌≤◌, ℤ, List, length, Option, Some, IsTrue}
use Rattle.map_nums.specs.Grids.{Size, IsSize, Cells, cell_at, cells_in}
use Rattle.map_nums.specs.Numbers.{greatest_value, is_value}
use Rattle.map_defs.specs.Spread.{IsSpread}
use Rattle.map_defs.specs.Nearest.{IsLeastValue}
use Rattle.friction_spread.specs.Costs.{GroundState, values, net_of}
use Rattle.friction_spread.specs.Shown.{shown_cells}

-- the operands of a spread, and its costs
pub record FieldState : Type 0 where
  pub ground : GroundState
  pub costs : List (Option ℤ)

abbrev pub field_of : Size → Cells → Cells → ℕ → Cells → FieldState
field_of s sources friction limit costs = record { ground = record { size = s; sources = sources; friction = friction; limit = limit }; costs = costs }

-- with costs in a list
abbrev pub list_field : GroundState → List ℕ → FieldState
list_field g costs = record { ground = g; costs = shown_cells g.size g.limit costs }

pub record IsField (f : FieldState) : Type 0 where
  pub size : IsSize f.ground.size
  pub limit : f.ground.limit ≤ greatest_value
  pub sources : length f.ground.sources ≡ cells_in f.ground.size
  pub friction : length f.ground.friction ≡ cells_in f.ground.size
  pub costs : IsSpread f.ground.size f.ground.sources f.ground.friction f.ground.limit f.costs

abbrev pub cost_at : FieldState → ℕ → ℕ
cost_at f i = values f.ground.limit f.costs i

abbrev pub own_at : FieldState → ℕ → Option ℤ
own_at f i = cell_at f.ground.sources i

-- each place has the least value that the steps of least costs bring, and a cell may hold it
pub record AreLeastValues (f : FieldState) (values : Cells) : Type 0 where
  pub count : length values ≡ cells_in f.ground.size
  pub in_range : (i : ℕ) (w : ℤ) → cell_at values i ≡ Some w → IsTrue (is_value w)
  pub each : (i : ℕ) → IsLeastValue (net_of f.ground) (cost_at f) (own_at f) (cell_at values) i
