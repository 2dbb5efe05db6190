-- Tiles that a grid has at given numbers.
use Rattle.std.specs.Prelude.{ℕ, List, map}
use Rattle.map_nums.specs.Grids.{Size, Cells}
use Rattle.layer_tiles.specs.Tiles.{Block, tile_block}

-- the tiles that a grid has at the numbers of these
abbrev pub tiles_at : Size → Cells → List (ℕ × Block) → List (ℕ × Block)
tiles_at s cells tiles = map (λ e. (e.0, tile_block s cells e.0)) tiles
