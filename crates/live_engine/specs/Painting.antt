-- Painting a rectangle of a layer, tile by tile.
use Rattle.std.specs.Prelude.{◌≡◌, ℕ, ◌+◌, ◌-◌, ◌*◌, ◌/◌, ◌%◌, ◌<◌, ◌≤◌, List, filter, length, ℤ, Option, Some, IsSome, if◌then◌else◌, IsTrue}
use Rattle.std.specs.List.{range_with_len}
use Rattle.map_nums.specs.Grids.{Size, Grid, cells_in, cell_at}
use Rattle.map_nums.specs.Tiles.{tiles}
use Rattle.map_defs.specs.Differences.{tile_has}
use Rattle.map_edits.specs.EditForms as edits
use Rattle.map_edits.specs.Painting.{holds, painted}
use Rattle.layer_tiles.specs.Tiles.{Block, tile_block, tile_of, tile_start, tile_height, tile_width}
use Rattle.layer_tiles.specs.Patches.{PatchState, patch_get}
use Rattle.live_engine.specs.declared.painting.Rectangle.{Rectangle}

-- the rectangle as edits have it
abbrev pub rectangle_of : Rectangle → edits.Rectangle
rectangle_of r = record { top = r.top; left = r.left; bottom = r.bottom; right = r.right }

-- rows and columns count from 1
pub record IsCounted (r : edits.Rectangle) : Type 0 where
  pub top : 1 ≤ r.top
  pub left : 1 ≤ r.left

-- the tiles that have a cell in the rectangle
abbrev pub met_tiles : Size → edits.Rectangle → List ℕ
met_tiles s r = filter (tile_has s (holds s r)) (tiles s)

-- ---- while it is made

-- tile t has a cell in the rectangle
pub record MeetsRectangle (s : Size) (r : edits.Rectangle) (t : ℕ) : Type 0 where
  pub at : ℕ
  pub within : at < cells_in s
  pub tile : tile_of s at ≡ t
  pub held : IsTrue (holds s r at)

-- the rows and the columns of tiles that the rectangle meets, from 0
abbrev pub first_row : edits.Rectangle → ℕ
first_row r = (r.top - 1) / 32

abbrev pub last_row : edits.Rectangle → ℕ
last_row r = (r.bottom - 1) / 32

abbrev pub first_column : edits.Rectangle → ℕ
first_column r = (r.left - 1) / 32

abbrev pub last_column : edits.Rectangle → ℕ
last_column r = (r.right - 1) / 32

-- how many of n tiles from tile a on have a cell in the rectangle
abbrev pub met_count : Size → edits.Rectangle → ℕ → ℕ → ℕ
met_count s r a n = length (filter (tile_has s (holds s r)) (range_with_len a n))

-- the cell at place k of tile t, of which b is the old one
abbrev pub painted_in : Size → ℕ → edits.Rectangle → Option ℤ → Block → ℕ → Option ℤ
painted_in s t r cell b k = if holds s r (tile_start s t + k / tile_width s t * s.columns + k % tile_width s t) then cell else cell_at b.cells k

-- the first k places of tile t are painted
pub record IsPainted (s : Size) (t : ℕ) (r : edits.Rectangle) (cell : Option ℤ) (b : Block) (k : ℕ) (made : Block) : Type 0 where
  pub height : made.height ≡ tile_height s t
  pub width : made.width ≡ tile_width s t
  pub count : length made.cells ≡ tile_height s t * tile_width s t
  pub done : (j : ℕ) → j < k → cell_at made.cells j ≡ painted_in s t r cell b j

-- the patch has the tiles below n that meet the rectangle, painted, and no others
pub record ArePainted (g : Grid) (r : edits.Rectangle) (cell : Option ℤ) (n : ℕ) (p : PatchState) : Type 0 where
  pub size : p.size ≡ g.size
  pub held : (t : ℕ) (b : Block) → patch_get p.tiles t ≡ Some b → b ≡ tile_block g.size (painted g.size r cell g).cells t
  pub there : (t : ℕ) → MeetsRectangle g.size r t → t < n → IsSome (patch_get p.tiles t)
  pub only : (t : ℕ) → IsSome (patch_get p.tiles t) → MeetsRectangle g.size r t × (t < n)
