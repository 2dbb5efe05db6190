-- Sets of tiles.
use Rattle.std.specs.Prelude.{◌≡◌, ℕ, Bool, false, List, length, map, slice_index_or}
use Rattle.map_nums.specs.Grids.{Size}
use Rattle.map_nums.specs.Tiles.{tiles_in, tiles}

-- a mark for each tile of a grid, true where the set has it
pub record TileSetState : Type 0 where
  pub size : Size
  pub marks : List Bool

pub record IsTileSet (d : TileSetState) : Type 0 where
  pub count : length d.marks ≡ tiles_in d.size

abbrev pub has_tile : TileSetState → ℕ → Bool
has_tile d t = slice_index_or d.marks t false

-- the set of the tiles that pass
abbrev pub set_by : Size → (ℕ → Bool) → TileSetState
set_by s test = record { size = s; marks = map test (tiles s) }
