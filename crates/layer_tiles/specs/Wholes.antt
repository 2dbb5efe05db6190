-- A grid that is kept as all of its tiles.
use Rattle.std.specs.Prelude.{◌≡◌, ℕ, List, length, map}
use Rattle.std.specs.List.{range_with_len}
use Rattle.map_nums.specs.Grids.{Size, Cells}
use Rattle.layer_tiles.specs.Tiles.{Block, tiles_in, tile_block}
use Rattle.layer_tiles.specs.Patches.{PatchState, IsPatch, HoldsAll}

-- each tile of the grid is there, in order
pub record IsWhole (s : Size) (tiles : List (ℕ × Block)) : Type 0 where
  pub patch : IsPatch (record { size = s; tiles = tiles })
  pub all : HoldsAll (record { size = s; tiles = tiles })

-- and there is a stamp for each
pub record IsTiled (s : Size) (tiles : List (ℕ × Block)) (marks : List ℕ) : Type 0 where
  pub whole : IsWhole s tiles
  pub stamps : length marks ≡ tiles_in s

-- the first n tiles of a grid, with their numbers
abbrev pub tiles_below : Size → Cells → ℕ → List (ℕ × Block)
tiles_below s cells n = map (λ t. (t, tile_block s cells t)) (range_with_len 0 n)

-- a patch holds these
pub record IsCut (s : Size) (cells : Cells) (n : ℕ) (p : PatchState) : Type 0 where
  pub size : p.size ≡ s
  pub tiles : p.tiles ≡ tiles_below s cells n
