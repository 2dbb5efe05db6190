use Rattle.std.proofs.Common.{sym, ap, ◌∙◌}
use Rattle.layer_tiles.specs.Patches.{patch_get}
use Rattle.layer_tiles.proofs.Entries.{entry}
use Rattle.layer_tiles.proofs.AllTiles.{whole_number}
use Rattle.layer_tiles.proofs.wholes.tile_at.Goals as goal

pub bounds-tiles-number : goal.bounds-tiles-number
bounds-tiles-number c = (whole_number c.args.extent c.args.tiles.now c.args.number c.requires.whole c.requires.within).0

pub returns : goal.returns
returns c =
    let tiles = c.args.tiles.now in
    let n = whole_number c.args.extent tiles c.args.number c.requires.whole c.requires.within in
    let e = entry c.args.extent tiles c.args.number c.index-tiles-number.result c.requires.whole.patch n.0 c.index-tiles-number.is in
    rw (c.tile.ensures) (ap (patch_get tiles) (sym n.1 ∙ e.number) ∙ e.found)
