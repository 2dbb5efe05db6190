use Rattle.std.proofs.Common.{◌+◌, arith}
use Rattle.map_nums.specs.Grids.{cells_in}
use Rattle.friction_neighbor.proofs.Gathering.{dear_brings, other_brings, lesser_gathered, lesser_brings}
use Rattle.friction_neighbor.proofs.ListSettling.{cell_read}
use Rattle.friction_neighbor.proofs.list_gathers.by_place.Goals as goal

pub returns-then-there-to-clause-brought : goal.returns-then-there-to-clause-brought
returns-then-there-to-clause-brought c = dear_brings c.args.field.now c.extent-extent.ensures.field c.args.values.now c.args.to.now c.requires.front c.args.best c.args.from.at c.cost-there.result c.cost-there.ensures.value c.if-there-to.true

pub returns-then-cost-to-clause-brought : goal.returns-then-cost-to-clause-brought
returns-then-cost-to-clause-brought c = other_brings c.args.field.now c.extent-extent.ensures.field c.args.values.now c.args.to.now c.requires.front c.args.from c.cost-there.result c.friction-friction.result (c.cost-there.result + c.weigh.result) c.requires.spot c.requires.near c.cost-there.ensures.value c.if-there-to.false c.requires.costed c.friction-friction.ensures.value (omega (arith, c.weigh.ensures.value)) c.args.best c.if-cost-to.true

pub returns-clause-gathered : goal.returns-clause-gathered
returns-clause-gathered c = lesser_gathered c.args.field.now c.extent-extent.ensures.field c.args.values.now c.args.to.now c.requires.front c.args.from c.cost-there.result c.friction-friction.result (c.cost-there.result + c.weigh.result) c.requires.spot c.requires.near c.cost-there.ensures.value c.if-there-to.false c.requires.costed c.friction-friction.ensures.value (omega (arith, c.weigh.ensures.value)) c.args.best c.index-values-from.result c.lesser.result c.if-cost-to.false (cell_read c.args.values.now (cells_in c.args.field.now.ground.size) c.args.from.at c.index-values-from.result c.requires.count c.requires.spot.within c.index-values-from.is) c.lesser.ensures

pub returns-clause-brought : goal.returns-clause-brought
returns-clause-brought c = lesser_brings c.args.field.now c.extent-extent.ensures.field c.args.values.now c.args.to.now c.requires.front c.args.from c.cost-there.result c.friction-friction.result (c.cost-there.result + c.weigh.result) c.requires.spot c.requires.near c.cost-there.ensures.value c.if-there-to.false c.requires.costed c.friction-friction.ensures.value (omega (arith, c.weigh.ensures.value)) c.args.best c.index-values-from.result c.lesser.result (cell_read c.args.values.now (cells_in c.args.field.now.ground.size) c.args.from.at c.index-values-from.result c.requires.count c.requires.spot.within c.index-values-from.is) c.lesser.ensures
