-- A list of a grid's cells that is filled tile by tile.
use Rattle.std.specs.Prelude.{◌≡◌, ℕ, ◌%◌, ◌<◌, length}
use Rattle.map_nums.specs.Grids.{Size, Cells, cells_in, cell_at, row_of}
use Rattle.layer_tiles.specs.Tiles.{tile_of}

-- it has the cells of the first n tiles of a grid
pub record HasTiles (s : Size) (cells : Cells) (n : ℕ) (copy : Cells) : Type 0 where
  pub count : length copy ≡ cells_in s
  pub same : (i : ℕ) → i < cells_in s → tile_of s i < n → cell_at copy i ≡ cell_at cells i

-- and those of the first r rows of the tile after them
pub record HasRows (s : Size) (cells : Cells) (n r : ℕ) (copy : Cells) : Type 0 where
  pub tiles : HasTiles s cells n copy
  pub rows : (i : ℕ) → i < cells_in s → tile_of s i ≡ n → row_of s i % 32 < r → cell_at copy i ≡ cell_at cells i
