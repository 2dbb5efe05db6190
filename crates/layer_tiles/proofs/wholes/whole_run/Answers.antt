use Rattle.std.proofs.Common.{◌≡◌, arith, Some, []}
use Rattle.layer_tiles.specs.Tiles.{tile_of, IsBlockOf}
use Rattle.layer_tiles.specs.Patches.{patch_get}
use Rattle.layer_tiles.proofs.Runs.{run_of_tile, run_in_tile}
use Rattle.layer_tiles.proofs.wholes.whole_run.Goals as goal
use Rattle.layer_tiles.proofs.wholes.whole_run.Goals.{After-tile_at-tile}

found : (c : After-tile_at-tile) → patch_get c.args.tiles.now (tile_of c.args.extent c.args.at) ≡ Some c.tile_at-tile.result.now
found c = rw (c.tile_of.ensures) at c.tile_at-tile.ensures

pub tile_at-tile-requires-clause-within : goal.tile_at-tile-requires-clause-within
tile_at-tile-requires-clause-within c = rw (c.tile_of.ensures) c.place_in-place.ensures.tile

pub run-requires : goal.run-requires
run-requires c =
    let s = c.args.extent in
    let p = c.requires.whole.patch in
    let z : IsBlockOf s (tile_of s c.args.at) c.tile_at-tile.result.now = p.sizes _ _ (found (goal.at.run-requires c).After-tile_at-tile) in
    let f = run_in_tile s c.args.at p.size c.requires.within in
    omega (arith, f, z.count, c.place_in-place.ensures.place, c.requires.count)

pub returns : goal.returns
returns c =
    let s = c.args.extent in
    let e = found (goal.at.returns c).After-tile_at-tile in
    run_of_tile s [] c.args.tiles.now c.run.result.now c.args.at c.args.count c.tile_at-tile.result.now c.requires.whole.patch.size c.requires.within e c.requires.count c.run.ensures.count (rw (← c.place_in-place.ensures.place) c.run.ensures.run)
