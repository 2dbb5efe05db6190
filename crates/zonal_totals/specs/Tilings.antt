-- The tiles of a zone.
use Rattle.std.specs.Prelude.{◌≡◌, ◌↔◌, ℕ, ◌<◌, List, Contains, slice_get, ℤ, Option, Some}
use Rattle.std.specs.List.{AllPairs}
use Rattle.map_nums.specs.Grids.{Size, Cells, cells_in, cell_at}
use Rattle.layer_tiles.specs.Tiles.{tile_of}

-- some cell of tile t has zone z
abbrev pub HasZone : Size → Cells → ℤ → ℕ → Type 0
HasZone s zones z t = (i : ℕ) × (i < cells_in s) × (tile_of s i ≡ t) × (cell_at zones i ≡ Some z)

-- r is the tile at place k of those that have a cell of zone z, in ascending order, none past the last
pub record IsZoneTile (s : Size) (zones : Cells) (z : ℤ) (k : ℕ) (r : Option ℕ) : Type 0 where
  pub tiles : List ℕ
  pub ascends : AllPairs (λ t u. t < u) tiles
  pub exact : (t : ℕ) → Contains tiles t ↔ HasZone s zones z t
  pub is : r ≡ slice_get tiles k
