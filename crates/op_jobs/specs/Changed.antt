-- Tiles that changed.
use Rattle.std.specs.Prelude.{ℕ, Bool, true, Option, Some, None}
use Rattle.map_nums.specs.Grids.{Size, Cells}
use Rattle.map_defs.specs.Differences.{differs, tile_has}

-- tile t has other cells than before; each one where there was no layer
abbrev pub is_changed : Size → Option Cells → Cells → ℕ → Bool
is_changed s None now t = true
is_changed s (Some was) now t = tile_has s (differs was now) t
