-- A tile, and what its cells are seen over.
use Rattle.std.specs.Prelude.{◌≡◌, ℕ, ◌<◌, ◌≤◌, Bool, ℤ, Option}
use Rattle.std.specs.List.{All}
use Rattle.map_nums.specs.Grids.{IsSize, cells_in}
use Rattle.layer_tiles.specs.Tiles.{Block, tiles_in, tile_height, tile_width, IsPlaced}
use Rattle.layer_tiles.specs.PlaceByPlace.{IsMade, cell_in}
use Rattle.layer_tiles.specs.Places.{IsPlaceOf}
use Rattle.near_cells.specs.Near.{IsNear}
use Rattle.sight_lines.specs.declared.tiles.SightTile.{SightTile}
use Rattle.sight_lines.specs.Heights.{AreHeights}
use Rattle.sight_lines.specs.Puts.{sighting_of}
use Rattle.sight_lines.specs.Viewed.{views, seen_at, seen_in}

-- the viewers are on the map, and the cells round the tile are those of the surface as far as a viewer reaches
pub record IsSightTile (m : SightTile) : Type 0 where
  pub size : IsSize m.surface.now.size
  pub within : m.tile < tiles_in m.surface.now.size
  pub placed : IsPlaced m.surface.now.size m.tile
  pub reach : m.sight.reach ≤ 64
  pub heights : AreHeights m.sight.from m.sight.to
  pub on_map : All (λ e. e.0 < cells_in m.surface.now.size) m.viewers.now
  pub near : IsNear m.surface.now.size m.surface.now.cells m.tile m.sight.reach m.near.now
  pub extent : m.extent ≡ m.surface.now.size
  pub place : IsPlaceOf m.surface.now.size m.tile m.place

-- the sum of the viewers that see each place of the tile
abbrev pub sums_of : SightTile → ℕ → Option ℤ
sums_of m = seen_in (sighting_of m.sight) m.surface.now.size m.surface.now.cells m.viewers.now m.tile

-- the sum of those that see the cell at row r and column c
abbrev pub sum_at : SightTile → ℕ → ℕ → Option ℤ
sum_at m r c = seen_at (sighting_of m.sight) m.surface.now.size m.surface.now.cells m.viewers.now (cell_in m.surface.now.size m.tile r c)

-- the viewer v within the reach sees that cell
abbrev pub is_seen : SightTile → ℕ → ℕ → ℕ → Bool
is_seen m r c v = views (sighting_of m.sight) m.surface.now.size m.surface.now.cells (cell_in m.surface.now.size m.tile r c) v

-- the first n places are made
abbrev pub IsMadeTo : SightTile → ℕ → Block → Type 0
IsMadeTo m n b = IsMade (sums_of m) (tile_height m.surface.now.size m.tile) (tile_width m.surface.now.size m.tile) n b
