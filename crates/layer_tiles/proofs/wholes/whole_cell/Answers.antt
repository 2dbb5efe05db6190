use Rattle.std.proofs.Common.{◌≡◌, refl, ◌∙◌, arith, Some, []}
use Rattle.layer_tiles.specs.Tiles.{tile_of, IsBlockOf}
use Rattle.layer_tiles.specs.Patches.{patch_get}
use Rattle.layer_tiles.proofs.Patching.{patched_get}
use Rattle.layer_tiles.proofs.wholes.whole_cell.Goals as goal
use Rattle.layer_tiles.proofs.wholes.whole_cell.Goals.{After-tile_at-tile}

found : (c : After-tile_at-tile) → patch_get c.args.tiles.now (tile_of c.args.extent c.args.at) ≡ Some c.tile_at-tile.result.now
found c = rw (c.tile_of.ensures) at c.tile_at-tile.ensures

pub tile_at-tile-requires-clause-within : goal.tile_at-tile-requires-clause-within
tile_at-tile-requires-clause-within c = rw (c.tile_of.ensures) c.place_in-place.ensures.tile

pub cell-requires : goal.cell-requires
cell-requires c =
    let z : IsBlockOf c.args.extent (tile_of c.args.extent c.args.at) c.tile_at-tile.result.now = c.requires.whole.patch.sizes _ _ (found (goal.at.cell-requires c).After-tile_at-tile) in
    omega (arith, z.count, c.place_in-place.ensures.within)

pub returns : goal.returns
returns c =
    let s = c.args.extent in
    let e = found (goal.at.returns c).After-tile_at-tile in
    c.cell.ensures ∙ rw (patched_get s [] c.args.tiles.now c.args.at c.requires.within, e, c.place_in-place.ensures.place) refl
