-- What a book holds, and the cells that it counts.
use Rattle.std.specs.Prelude.{◌≡◌, ℕ, Bool, ◌&&◌, List, count_by, ℤ, pos, Option, Some}
use Rattle.map_nums.specs.Grids.{Size, Cells, cell_at, places}
use Rattle.map_defs.specs.Cells.{has_number}
use Rattle.layer_tiles.specs.Tiles.{tile_of}
use Rattle.zonal_totals.specs.declared.pairs.Pair.{Pair}
use Rattle.zonal_totals.specs.declared.entries.Entry.{Entry}
use Rattle.zonal_totals.specs.Entries.{count_in}

-- the place has the pair's zone and the pair's key
abbrev pub has_pair : (ℕ → Option ℤ) → (ℕ → Option ℤ) → Pair → ℕ → Bool
has_pair zone key p i = has_number p.zone (zone i) && has_number p.key (key i)

-- how many places have the pair
abbrev pub pairs_in : Size → (ℕ → Option ℤ) → (ℕ → Option ℤ) → Pair → ℕ
pairs_in s zone key p = count_by (has_pair zone key p) (places s)

-- the number of the place's tile
abbrev pub tile_number : Size → ℕ → Option ℤ
tile_number s i = Some (pos (tile_of s i))

-- counts of zones and values, and of zones and tiles
pub record BookState : Type 0 where
  pub size : Size
  pub values : List Entry
  pub tiles : List Entry

-- the zones for which the count of some value differs, and the book after an edit
pub record PatchState : Type 0 where
  pub zones : List ℤ
  pub after : BookState

-- the book counts each value of each zone, and the cells of each zone in each tile
pub record IsBookOf (b : BookState) (values zones : Cells) : Type 0 where
  pub value_counts : (p : Pair) → count_in b.values p ≡ pairs_in b.size (cell_at zones) (cell_at values) p
  pub tile_counts : (p : Pair) → count_in b.tiles p ≡ pairs_in b.size (cell_at zones) (tile_number b.size) p
