use Rattle.std.proofs.Common.{◌∙◌}
use Rattle.layer_tiles.proofs.AllTiles.{whole_tile}
use Rattle.layer_tiles.proofs.wholes.whole_view.Goals as goal

pub returns : goal.returns
returns c = c.view.ensures ∙ whole_tile c.args.extent c.args.tiles.now c.args.number c.tile_at.result.now c.requires.whole c.requires.within c.tile_at.ensures
