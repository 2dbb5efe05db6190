use Rattle.std.proofs.Common.{rules, ◌+◌, ◌*◌}
use Rattle.layer_tiles.proofs.Ranged.{AreCells-set}
use Rattle.layer_tiles.proofs.tiles.Tile.set.Goals as goal

pub invariant_of-self : goal.invariant_of-self
invariant_of-self c = (search rules, AreCells-set c.self.inside.cells.items (c.args.r * c.self.inside.width + c.args.c) c.args.cell c.self.invariant.1 c.get-value.ensures.cell)
