use Rattle.std.proofs.Common.{ap, arith}
use Rattle.layer_tiles.specs.Tiles.{tiles_in}
use Rattle.flat_cells.proofs.Copying.{tiles_all}
use Rattle.flat_cells.proofs.copies.cells_of.Goals as goal

pub returns-clause-cells : goal.returns-clause-cells
returns-clause-cells g c =
    let of = c.args.of.now in
    tiles_all of.size of.cells c.loop-tile.tile c.loop-tile.cells.items c.extent-extent.ensures.size c.extent-extent.ensures.change.cells (omega (arith, c.loop-tile-test.false, c.tiles-tile-end.ensures.tiles, ap tiles_in c.extent-extent.ensures.extent)) c.loop-tile.invariant.tiles
