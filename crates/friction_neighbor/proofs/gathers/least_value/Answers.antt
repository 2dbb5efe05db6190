use Rattle.std.proofs.Common.{Option, ℤ, sym, subst, arith}
use Rattle.friction_neighbor.specs.Gathers.{IsLeastHere}
use Rattle.friction_neighbor.proofs.Gathering.{none_least, own_least}
use Rattle.friction_neighbor.proofs.gathers.least_value.Goals as goal

pub returns-then-to-limit-clause-least : goal.returns-then-to-limit-clause-least
returns-then-to-limit-clause-least g c =
    let P : Option ℤ → Type 0 = IsLeastHere c.args.field.now.field c.args.values.now.cells c.args.to.now.spot.at in
    subst P (sym c.null.ensures) (none_least c.args.field.now.field c.extent-extent.ensures.field c.args.values.now.cells c.args.to.now c.requires.front (omega (arith, c.limit-limit.ensures.limit, c.if-to-limit.true)))

pub returns-then-to-eq0-clause-least : goal.returns-then-to-eq0-clause-least
returns-then-to-eq0-clause-least g c =
    let P : Option ℤ → Type 0 = IsLeastHere c.args.field.now.field c.args.values.now.cells c.args.to.now.spot.at in
    subst P (sym c.source.ensures.cell) (own_least c.args.field.now.field c.extent-extent.ensures.field c.args.values.now.cells c.args.to.now c.requires.front c.if-to-eq0.true)
