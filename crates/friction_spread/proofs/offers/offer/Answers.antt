use Rattle.std.proofs.Common.{◌≡◌, ℕ, ◌+◌, ◌<◌, ap, sym, ◌∙◌, arith, subst}
use Rattle.std.specs.List.{Contains}
use Rattle.map_defs.specs.Spread.{friction_at}
use Rattle.friction_spread.specs.Costs.{values, step_of}
use Rattle.friction_spread.specs.Spots.{weighed}
use Rattle.friction_spread.proofs.Least.{step_least, step_to_barrier, step_weighed}
use Rattle.friction_spread.proofs.offers.offer.Given.{Over}
use Rattle.friction_spread.proofs.offers.offer.Goals as goal
use Rattle.friction_spread.proofs.offers.offer.Goals.{After-weigh}
use Rattle.least_costs.proofs.Queues.{pushed_kept, pushed_there, pushed_length}

pub returns-then-there-value-clause-offered : goal.returns-then-there-value-clause-offered
returns-then-there-value-clause-offered g c = λ l m. absurd (omega (arith, m, (step_least c.args.ground.now c.args.from.now.spot.at c.args.to.at l).0, c.requires.own.0, c.requires.value, c.cost_at-there.ensures.value, c.least_step.ensures, c.if-there-value.true))

pub returns-then-friction-eq0-clause-offered : goal.returns-then-friction-eq0-clause-offered
returns-then-friction-eq0-clause-offered g c = λ l. absurd (omega (arith, l, step_to_barrier c.args.ground.now c.args.from.now.spot.at c.args.to.at (sym c.friction-friction.ensures.value ∙ c.if-friction-eq0.true)))

there : (g : Over) (c : After-weigh g) → c.cost_at-there.result ≡ values c.args.ground.now.limit c.args.labels.now.cells c.args.to.at
there g c = c.cost_at-there.ensures.value

costs : (g : Over) (c : After-weigh g) → c.args.value + c.weigh.result ≡ values c.args.ground.now.limit c.args.labels.now.cells c.args.from.now.spot.at + step_of c.args.ground.now c.args.from.now.spot.at c.args.to.at
costs g c =
    let f = friction_at c.args.ground.now.friction c.args.to.at in
    let o : 0 < f = omega (arith, c.friction-friction.ensures.value, c.if-friction-eq0.false) in
    let u : 0 < friction_at c.args.ground.now.friction c.args.from.now.spot.at = omega (arith, c.requires.own.0, c.requires.own.1) in
    let e = step_weighed c.args.ground.now c.args.from.now.spot c.args.to c.requires.spots.0 c.requires.spots.1 c.requires.near c.if-from-to.false u o in
    let r : c.weigh.result ≡ step_of c.args.ground.now c.args.from.now.spot.at c.args.to.at =
    c.weigh.ensures.value ∙ ap (λ n. weighed c.args.from.now.spot c.args.to n c.friction-friction.result) c.requires.own.0 ∙ ap (λ n. weighed c.args.from.now.spot c.args.to (friction_at c.args.ground.now.friction c.args.from.now.spot.at) n) c.friction-friction.ensures.value ∙ sym e in
    omega (arith, r, c.requires.value)

pub returns-then-cost-there-clause-offered : goal.returns-then-cost-there-clause-offered
returns-then-cost-there-clause-offered g c = λ l m. let d = (goal.at.returns-then-cost-there-clause-offered g c).After-weigh in absurd (omega (arith, m, costs g d, there g d, c.if-cost-there.true))

pub returns-clause-kept : goal.returns-clause-kept
returns-clause-kept g c = pushed_kept _ _ _ c.in_ok-push.ensures

pub returns-clause-offered : goal.returns-clause-offered
returns-clause-offered g c = λ l m.
    let d = (goal.at.returns-clause-offered g c).After-weigh in
    let P : ℕ → Type 0 = λ k. Contains c.push.new.self (k, c.args.to.at) in
    subst P (costs g d) (pushed_there _ _ _ c.in_ok-push.ensures)

pub returns-clause-len : goal.returns-clause-len
returns-clause-len g c = pushed_length _ _ _ c.in_ok-push.ensures
