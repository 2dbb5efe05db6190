-- A row of a tile that is made over the rows above it.
use Rattle.std.specs.Prelude.{ℕ, ◌+◌, ◌*◌, ℤ, Option, Result, Ok, Err}
use Rattle.map_nums.specs.Grids.{Size}
use Rattle.layer_tiles.specs.Tiles.{Block, tile_height, tile_width}
use Rattle.layer_tiles.specs.PlaceByPlace.{IsPlaceRefusal, IsMade}
use Rattle.layer_tiles.specs.declared.kernels.KernelRefusal.{KernelRefusal}

-- the rows up to row r have what f gives where all of it is in range, and exactly there
abbrev pub IsRowAnswer : (ℕ → Option ℤ) → Size → ℕ → ℕ → Block → Result (Unit {0}) KernelRefusal → Type 0
IsRowAnswer f s t r b (Ok done) = IsMade f (tile_height s t) (tile_width s t) ((r + 1) * tile_width s t) b
IsRowAnswer f s t r b (Err e) = IsPlaceRefusal f s t e
