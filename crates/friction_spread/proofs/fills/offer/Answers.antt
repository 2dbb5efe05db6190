use Rattle.std.proofs.Common.{◌≡◌, ◌+◌, ◌<◌, get_or, refl, ap, sym, ◌∙◌, arith}
use Rattle.map_defs.specs.Spread.{friction_at}
use Rattle.least_costs.proofs.Fills.{offered, offered_none}
use Rattle.friction_spread.specs.Costs.{net_of, step_of}
use Rattle.friction_spread.specs.Flat.{costs_of}
use Rattle.friction_spread.specs.Spots.{weighed}
use Rattle.friction_spread.proofs.Flats.{cost_read, cost_set}
use Rattle.friction_spread.proofs.Least.{step_least, step_same, step_to_barrier, step_weighed}
use Rattle.friction_spread.proofs.fills.offer.Goals as goal
use Rattle.friction_spread.proofs.fills.offer.Goals.{After-weigh}

pub returns-then-from-to-clause-offered : goal.returns-then-from-to-clause-offered
returns-then-from-to-clause-offered c = offered_none (net_of c.args.ground.now) c.args.value c.args.from.at (costs_of c.args.ground.now c.args.costs.now) c.args.queue.now

pub returns-then-from-to-clause-relaxed : goal.returns-then-from-to-clause-relaxed
returns-then-from-to-clause-relaxed c = λ l. absurd (omega (arith, l, step_same c.args.ground.now c.args.from.at c.args.to.at c.if-from-to.true))

pub returns-then-there-value-clause-offered : goal.returns-then-there-value-clause-offered
returns-then-there-value-clause-offered c = offered_none (net_of c.args.ground.now) c.args.value c.args.from.at (costs_of c.args.ground.now c.args.costs.now) c.args.queue.now

pub returns-then-there-value-clause-relaxed : goal.returns-then-there-value-clause-relaxed
returns-then-there-value-clause-relaxed c = λ l. omega (arith, cost_read c.args.ground.now c.args.costs.now c.args.to.at (omega (arith, c.requires.count, c.requires.spots.1.within)), c.if-there-value.true, c.requires.value, c.requires.own.0, c.least_step.ensures, (step_least c.args.ground.now c.args.from.at c.args.to.at l).0)

pub returns-then-beyond-eq0-clause-offered : goal.returns-then-beyond-eq0-clause-offered
returns-then-beyond-eq0-clause-offered c = offered_none (net_of c.args.ground.now) c.args.value c.args.from.at (costs_of c.args.ground.now c.args.costs.now) c.args.queue.now

pub returns-then-beyond-eq0-clause-relaxed : goal.returns-then-beyond-eq0-clause-relaxed
returns-then-beyond-eq0-clause-relaxed c = λ l. absurd (omega (arith, l, step_to_barrier c.args.ground.now c.args.from.at c.args.to.at (sym c.friction-beyond.ensures.value ∙ c.if-beyond-eq0.true)))

costs : (c : After-weigh) → c.weigh.result ≡ step_of c.args.ground.now c.args.from.at c.args.to.at
costs c =
    let gr = c.args.ground.now in
    let f = friction_at gr.friction c.args.to.at in
    let e : c.friction-beyond.result ≡ f = c.friction-beyond.ensures.value in
    let o : 0 < f = omega (arith, e, c.if-beyond-eq0.false) in
    let u : 0 < friction_at gr.friction c.args.from.at = omega (arith, c.requires.own.0, c.requires.own.1) in
    c.weigh.ensures.value ∙ ap (λ n. weighed c.args.from c.args.to n c.friction-beyond.result) c.requires.own.0 ∙ ap (λ n. weighed c.args.from c.args.to (friction_at gr.friction c.args.from.at) n) e ∙ sym (step_weighed gr c.args.from c.args.to c.requires.spots.0 c.requires.spots.1 c.requires.near c.if-from-to.false u o)

there : (c : After-weigh) → get_or c.args.costs.now c.args.to.at 0 ≡ costs_of c.args.ground.now c.args.costs.now c.args.to.at
there c = cost_read c.args.ground.now c.args.costs.now c.args.to.at (omega (arith, c.requires.count, c.requires.spots.1.within))

pub returns-then-cost-there-clause-offered : goal.returns-then-cost-there-clause-offered
returns-then-cost-there-clause-offered c = offered_none (net_of c.args.ground.now) c.args.value c.args.from.at (costs_of c.args.ground.now c.args.costs.now) c.args.queue.now

pub returns-then-cost-there-clause-relaxed : goal.returns-then-cost-there-clause-relaxed
returns-then-cost-there-clause-relaxed c = λ l. let d = (goal.at.returns-then-cost-there-clause-relaxed c).After-weigh in omega (arith, costs d, there d, c.if-cost-there.true, c.requires.value)

pub returns-clause-offered : goal.returns-clause-offered
returns-clause-offered c =
    let d = (goal.at.returns-clause-offered c).After-weigh in
    let gr = c.args.ground.now in
    let w = c.args.value + c.weigh.result in
    offered (net_of gr) c.args.value c.args.from.at c.args.to.at w (costs_of gr c.args.costs.now) _ c.args.queue.now c.push.new.self c.requires.spots.1.within c.if-from-to.false (sym c.requires.value) (ap (λ n. c.args.value + n) (costs d)) (omega (arith, there d, c.if-cost-there.false)) (cost_set gr c.args.costs.now _ c.args.to.at w (omega (arith, c.requires.count, c.requires.spots.1.within)) refl) c.in_ok-push.ensures

pub returns-clause-relaxed : goal.returns-clause-relaxed
returns-clause-relaxed c = λ l.
    let d = (goal.at.returns-clause-relaxed c).After-weigh in
    let gr = c.args.ground.now in
    let w = c.args.value + c.weigh.result in
    let set = cost_set gr c.args.costs.now _ c.args.to.at w (omega (arith, c.requires.count, c.requires.spots.1.within)) refl in
    omega (arith, set.here, set.other c.args.from.at c.if-from-to.false, costs d, c.requires.value)
