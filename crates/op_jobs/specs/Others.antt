-- A tile that is made, beside the kept one.
use Rattle.std.specs.Prelude.{◌≡◌, ◌≢◌, ℕ, Option, Some, None}
use Rattle.layer_tiles.specs.Tiles.{Block, tile_block}
use Rattle.map_waves.specs.declared.keeping.Kept.{Kept}
use Rattle.op_jobs.specs.declared.beside.Beside.{Beside}

-- the tile, none where the kept one has its cells
abbrev pub IsOther : Option (Kept Beside) → ℕ → Block → Option Block → Type 0
IsOther None t b r = r ≡ Some b
IsOther (Some k) t b None = tile_block k.layer.size k.layer.cells t ≡ b
IsOther (Some k) t b (Some c) = (c ≡ b) × (tile_block k.layer.size k.layer.cells t ≢ b)
