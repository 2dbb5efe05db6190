use Rattle.std.proofs.Common.{◌≡◌, ◌<◌, arith, ap, sym, ◌∙◌}
use Rattle.map_defs.specs.Spread.{friction_at}
use Rattle.friction_spread.specs.Costs.{values, step_of}
use Rattle.friction_spread.specs.Spots.{weighed}
use Rattle.friction_spread.proofs.Least.{step_same, step_barrier, step_weighed, too_far}
use Rattle.friction_spread.proofs.equations.by_place.Goals as goal

pub returns-then-from-to-clause-value : goal.returns-then-from-to-clause-value
returns-then-from-to-clause-value g c = omega (arith, step_same c.args.ground.now c.args.from.at c.args.to.now.spot.at c.if-from-to.true, c.requires.best)

pub returns-then-value-least_step-clause-value : goal.returns-then-value-least_step-clause-value
returns-then-value-least_step-clause-value g c =
    let l = too_far c.args.ground.now c.args.from.at c.args.to.now.spot.at c.args.to.now.friction c.cost_at-value.result c.args.best c.requires.own.0 c.requires.best (omega (arith, c.if-value-least_step.true, c.least_step.ensures)) in
    omega (arith, l, c.cost_at-value.ensures.value)

pub returns-then-friction-eq0-clause-value : goal.returns-then-friction-eq0-clause-value
returns-then-friction-eq0-clause-value g c = omega (arith, step_barrier c.args.ground.now c.args.from.at c.args.to.now.spot.at (sym c.friction-friction.ensures.value ∙ c.if-friction-eq0.true), c.requires.best)

pub returns-clause-value : goal.returns-clause-value
returns-clause-value g c =
    let f = friction_at c.args.ground.now.friction c.args.from.at in
    let o : 0 < f = omega (arith, c.friction-friction.ensures.value, c.if-friction-eq0.false) in
    let u : 0 < friction_at c.args.ground.now.friction c.args.to.now.spot.at = omega (arith, c.requires.own.0, c.requires.own.1) in
    let e = step_weighed c.args.ground.now c.args.from c.args.to.now.spot c.requires.spots.1 c.requires.spots.0 c.requires.near c.if-from-to.false o u in
    let v : c.cost_at-value.result ≡ values c.args.ground.now.limit c.args.labels.now.cells c.args.from.at =
    c.cost_at-value.ensures.value in
    let r : c.weigh.result ≡ step_of c.args.ground.now c.args.from.at c.args.to.now.spot.at =
    c.weigh.ensures.value ∙ ap (λ n. weighed c.args.from c.args.to.now.spot n c.args.to.now.friction) c.friction-friction.ensures.value ∙ ap (λ n. weighed c.args.from c.args.to.now.spot f n) c.requires.own.0 ∙ sym e in
    omega (arith, v, r, c.min.ensures)
