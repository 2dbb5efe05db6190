use Rattle.layer_tiles.proofs.AllTiles.{cut_all, cut_layer}
use Rattle.layer_tiles.proofs.layers.Layer.from_cells.Goals as goal

pub fresh-requires : goal.fresh-requires
fresh-requires c = cut_all c.args.extent c.args.cells.now c.in_ok-patch.patch c.in_ok-patch.ensures.cut

pub returns : goal.returns
returns c = cut_layer c.args.extent c.args.cells.now c.args.stamp c.in_ok-patch.patch c.fresh.result c.in_ok-patch.ensures.size c.requires c.in_ok-patch.ensures.cut c.fresh.ensures
