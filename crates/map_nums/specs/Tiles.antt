-- Tiles of 32 by 32 cells, cut at the right and bottom edges, numbered row by row.
use Rattle.std.specs.Prelude.{ℕ, ◌+◌, ◌-◌, ◌*◌, ◌/◌, ◌%◌, ◌<◌, ◌≤◌, min, List}
use Rattle.std.specs.List.{range_with_len}
use Rattle.map_nums.specs.Grids.{Size, row_of, column_of}

-- the rows and columns of a tile that isn't cut
abbrev pub tile_side : ℕ
tile_side = 32

unfoldable pub tiles_across : Size → ℕ
tiles_across s = (s.columns + 31) / tile_side

unfoldable pub tiles_down : Size → ℕ
tiles_down s = (s.rows + 31) / tile_side

unfoldable pub tiles_in : Size → ℕ
tiles_in s = tiles_down s * tiles_across s

abbrev pub tiles : Size → List ℕ
tiles s = range_with_len 0 (tiles_in s)

-- the row and the column of a tile's first cell
unfoldable pub tile_top : Size → ℕ → ℕ
tile_top s t = tile_side * (t / tiles_across s)

unfoldable pub tile_left : Size → ℕ → ℕ
tile_left s t = tile_side * (t % tiles_across s)

unfoldable pub tile_height : Size → ℕ → ℕ
tile_height s t = min tile_side (s.rows - tile_top s t)

unfoldable pub tile_width : Size → ℕ → ℕ
tile_width s t = min tile_side (s.columns - tile_left s t)

abbrev pub tile_size : Size → ℕ → ℕ
tile_size s t = tile_height s t * tile_width s t

-- the place in the grid of a tile's first cell
unfoldable pub tile_start : Size → ℕ → ℕ
tile_start s t = tile_top s t * s.columns + tile_left s t

-- the tile of a cell
unfoldable pub tile_of : Size → ℕ → ℕ
tile_of s at = row_of s at / tile_side * tiles_across s + column_of s at / tile_side

-- the place of a cell within its tile
unfoldable pub place_in : Size → ℕ → ℕ
place_in s at = row_of s at % tile_side * tile_width s (tile_of s at) + column_of s at % tile_side

-- a tile lies within its grid and is not empty
pub record IsPlaced (s : Size) (t : ℕ) : Type 0 where
  pub some_row : 0 < tile_height s t
  pub some_column : 0 < tile_width s t
  pub most_rows : tile_height s t ≤ tile_side
  pub most_columns : tile_width s t ≤ tile_side
  pub last_row : tile_top s t + tile_height s t ≤ s.rows
  pub last_column : tile_left s t + tile_width s t ≤ s.columns
