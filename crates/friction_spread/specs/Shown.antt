-- The cells that show costs.
use Rattle.std.specs.Prelude.{ℕ, suc, List, ℤ, Option, slice_index_or}
use Rattle.map_nums.specs.Grids.{Size, Cells, grid_by}
use Rattle.map_defs.specs.Rounds.{cost_cell}

-- what place i shows
abbrev pub shown_at : ℕ → List ℕ → ℕ → Option ℤ
shown_at limit costs i = cost_cell limit (slice_index_or costs i (suc limit))

abbrev pub shown_cells : Size → ℕ → List ℕ → Cells
shown_cells s limit costs = (grid_by s (shown_at limit costs)).cells
