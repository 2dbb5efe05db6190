-- What a tile that is lent is made of.
use Rattle.std.specs.Prelude.{ℕ, ◌≤◌, length}
use Rattle.map_nums.specs.Grids.{Cells}
use Rattle.layer_tiles.specs.Cells.{AreCells}
use Rattle.layer_tiles.specs.Tiles.{IsStrided}

-- rows of a list of cells, at most 32 by 32 of them
pub record IsLent (cells : Cells) (start stride height width : ℕ) : Type 0 where
  pub rows : IsStrided (length cells) start stride height width
  pub most_rows : height ≤ 32
  pub most_columns : width ≤ 32
  pub are_cells : AreCells cells
