use Rattle.std.proofs.Common.{◌+◌, arith}
use Rattle.friction_neighbor.proofs.Gathering.{far_brings, other_brings, lesser_gathered, lesser_brings}
use Rattle.friction_neighbor.proofs.gathers.by_place.Goals as goal

pub returns-then-there-least_step-clause-brought : goal.returns-then-there-least_step-clause-brought
returns-then-there-least_step-clause-brought g c = far_brings c.args.field.now.field c.extent-extent.ensures.field c.args.values.now.cells c.args.to.now c.requires.front c.args.best c.args.from.at c.cost-there.result c.cost-there.ensures.value c.requires.costed (omega (arith, c.if-there-least_step.true, c.least_step.ensures))

pub returns-then-cost-to-clause-brought : goal.returns-then-cost-to-clause-brought
returns-then-cost-to-clause-brought g c = other_brings c.args.field.now.field c.extent-extent.ensures.field c.args.values.now.cells c.args.to.now c.requires.front c.args.from c.cost-there.result c.friction-friction.result (c.cost-there.result + c.weigh.result) c.requires.spot c.requires.near c.cost-there.ensures.value (omega (arith, c.if-there-least_step.false, c.least_step.ensures)) c.requires.costed c.friction-friction.ensures.value (omega (arith, c.weigh.ensures.value)) c.args.best c.if-cost-to.true

pub returns-clause-gathered : goal.returns-clause-gathered
returns-clause-gathered g c = lesser_gathered c.args.field.now.field c.extent-extent.ensures.field c.args.values.now.cells c.args.to.now c.requires.front c.args.from c.cost-there.result c.friction-friction.result (c.cost-there.result + c.weigh.result) c.requires.spot c.requires.near c.cost-there.ensures.value (omega (arith, c.if-there-least_step.false, c.least_step.ensures)) c.requires.costed c.friction-friction.ensures.value (omega (arith, c.weigh.ensures.value)) c.args.best c.get-value.result c.lesser.result c.if-cost-to.false c.get-value.ensures.cell c.lesser.ensures

pub returns-clause-brought : goal.returns-clause-brought
returns-clause-brought g c = lesser_brings c.args.field.now.field c.extent-extent.ensures.field c.args.values.now.cells c.args.to.now c.requires.front c.args.from c.cost-there.result c.friction-friction.result (c.cost-there.result + c.weigh.result) c.requires.spot c.requires.near c.cost-there.ensures.value (omega (arith, c.if-there-least_step.false, c.least_step.ensures)) c.requires.costed c.friction-friction.ensures.value (omega (arith, c.weigh.ensures.value)) c.args.best c.get-value.result c.lesser.result c.get-value.ensures.cell c.lesser.ensures
