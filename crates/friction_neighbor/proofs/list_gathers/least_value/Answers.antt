use Rattle.std.proofs.Common.{Option, ℤ, sym, subst, arith}
use Rattle.friction_neighbor.specs.Gathers.{IsLeastHere}
use Rattle.friction_neighbor.proofs.Gathering.{none_least, own_least}
use Rattle.friction_neighbor.proofs.list_gathers.least_value.Goals as goal

pub returns-then-to-limit : goal.returns-then-to-limit
returns-then-to-limit c =
    let P : Option ℤ → Type 0 = IsLeastHere c.args.field.now c.args.values.now c.args.to.now.spot.at in
    record { least = subst P (sym c.null.ensures) (none_least c.args.field.now c.extent-extent.ensures.field c.args.values.now c.args.to.now c.requires.front (omega (arith, c.limit-limit.ensures.limit, c.if-to-limit.true))) }

pub returns-then-to-eq0 : goal.returns-then-to-eq0
returns-then-to-eq0 c =
    let P : Option ℤ → Type 0 = IsLeastHere c.args.field.now c.args.values.now c.args.to.now.spot.at in
    record { least = subst P (sym c.source.ensures) (own_least c.args.field.now c.extent-extent.ensures.field c.args.values.now c.args.to.now c.requires.front c.if-to-eq0.true) }
