-- The cells that show values.
use Rattle.map_nums.specs.Grids.{Size, Cells, cell_at, grid_by}

abbrev pub shown_cells : Size → Cells → Cells
shown_cells s values = (grid_by s (cell_at values)).cells
