use Rattle.std.proofs.Common.{arith}
use Rattle.layer_tiles.proofs.Numbers.{tiles_few}
use Rattle.layer_tiles.proofs.patches.Patch.len.Goals as goal

pub overflow_cast-result : goal.overflow_cast-result
overflow_cast-result c = omega (arith, tiles_few (record { size = c.self.inside.extent; tiles = c.self.inside.tiles.items }) c.self.invariant.0, c.tiles-most.ensures.tiles)

pub returns-clause-most : goal.returns-clause-most
returns-clause-most c = rw (← c.self.view_is) (omega (arith, tiles_few (record { size = c.self.inside.extent; tiles = c.self.inside.tiles.items }) c.self.invariant.0, c.len.ensures))
