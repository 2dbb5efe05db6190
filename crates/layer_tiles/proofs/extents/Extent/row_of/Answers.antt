use Rattle.std.proofs.Common.{arith}
use Rattle.layer_tiles.proofs.Scales.{row_by_scale}
use Rattle.layer_tiles.proofs.extents.Extent.row_of.Goals as goal

pub overflow_mul-result : goal.overflow_mul-result
overflow_mul-result c = let h = row_by_scale c.args.self.now _ c.args.at c.from.result c.self.inside.scale c.self.view_is c.self.invariant.0 c.self.invariant.1 c.from.ensures c.requires in omega (arith, h.product)

pub overflow_cast-result : goal.overflow_cast-result
overflow_cast-result c = let h = row_by_scale c.args.self.now _ c.args.at c.from.result c.self.inside.scale c.self.view_is c.self.invariant.0 c.self.invariant.1 c.from.ensures c.requires in omega (arith, h.small)

pub returns-clause-row : goal.returns-clause-row
returns-clause-row c = (row_by_scale c.args.self.now _ c.args.at c.from.result c.self.inside.scale c.self.view_is c.self.invariant.0 c.self.invariant.1 c.from.ensures c.requires).is

pub returns-clause-within : goal.returns-clause-within
returns-clause-within c = (row_by_scale c.args.self.now _ c.args.at c.from.result c.self.inside.scale c.self.view_is c.self.invariant.0 c.self.invariant.1 c.from.ensures c.requires).within
