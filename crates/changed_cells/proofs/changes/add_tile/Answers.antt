use Rattle.layer_tiles.specs.Changes.{cells_before}
use Rattle.layer_tiles.proofs.Whole.{tile_block_is}
use Rattle.changed_cells.proofs.changes.add_tile.Goals as goal

pub add_rows-requires-clause-before : goal.add_rows-requires-clause-before
add_rows-requires-clause-before g c = rw (c.extent-extent.ensures.extent, c.view_before-before.ensures.tile) (tile_block_is c.args.of.now.size (cells_before c.args.of.now) c.args.tile)

pub add_rows-requires-clause-after : goal.add_rows-requires-clause-after
add_rows-requires-clause-after g c = rw (c.extent-extent.ensures.extent, c.view-after.ensures.tile) (tile_block_is c.args.of.now.size c.args.of.now.cells c.args.tile)
