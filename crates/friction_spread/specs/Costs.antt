-- Cells as costs, and the net of a spread.
use Rattle.std.specs.Prelude.{◌≡◌, ℕ, suc, ◌≤◌, ◌&&◌, ℤ, pos, negsuc, List, Option, Some, None, is_some, if◌then◌else◌}
use Rattle.map_nums.specs.Grids.{Size, IsSize, Cells, cell_at, cells_in, is_neighbour}
use Rattle.map_nums.specs.Numbers.{greatest_value}
use Rattle.map_defs.specs.Nets.{Net}
use Rattle.map_defs.specs.Spread.{step_cost}
use Rattle.map_defs.specs.Rounds.{is_open, cost_cell}

-- the operands of a spread: costs above the limit are none
pub record GroundState : Type 0 where
  pub size : Size
  pub sources : List (Option ℤ)
  pub friction : List (Option ℤ)
  pub limit : ℕ

-- the number of a cell; `top` where it is null
abbrev pub cost_of : ℕ → Option ℤ → ℕ
cost_of top None = top
cost_of top (Some (pos v)) = v
cost_of top (Some (negsuc v)) = 0

-- the costs that cells show
abbrev pub values : ℕ → Cells → ℕ → ℕ
values limit cells i = cost_of (suc limit) (cell_at cells i)

-- each cell is null or a cost within the limit
abbrev pub AreCosts : ℕ → Cells → Type 0
AreCosts limit cells = (i : ℕ) → cell_at cells i ≡ cost_cell limit (values limit cells i)

-- what a path costs that begins at place i, and a step from j to i
unfoldable pub base_of : GroundState → ℕ → ℕ
base_of g i = if is_open g.size g.friction i && is_some (cell_at g.sources i) then 0 else suc g.limit

unfoldable pub step_of : GroundState → ℕ → ℕ → ℕ
step_of g j i = if is_open g.size g.friction j && is_open g.size g.friction i && is_neighbour g.size j i then step_cost g.size g.friction j i else suc g.limit

abbrev pub net_of : GroundState → Net
net_of g = record { size = cells_in g.size; top = suc g.limit; base = base_of g; step = step_of g }

pub record IsGround (g : GroundState) : Type 0 where
  pub size : IsSize g.size
  pub limit : g.limit ≤ greatest_value
