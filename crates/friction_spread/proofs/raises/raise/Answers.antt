use Rattle.std.proofs.Common.{◌≡◌, ℕ, ◌+◌, ◌<◌, ap, sym, ◌∙◌, arith, subst}
use Rattle.std.specs.List.{Contains}
use Rattle.std.proofs.lemmas.Result.{on_ok_weaker}
use Rattle.map_defs.specs.Spread.{friction_at}
use Rattle.friction_spread.specs.Costs.{values, step_of}
use Rattle.friction_spread.specs.Spots.{weighed}
use Rattle.friction_spread.proofs.Least.{step_least, step_same, step_to_barrier, step_weighed}
use Rattle.friction_spread.proofs.raises.raise.Given.{Over}
use Rattle.friction_spread.proofs.raises.raise.Goals as goal
use Rattle.friction_spread.proofs.raises.raise.Goals.{After-weigh}
use Rattle.least_costs.proofs.Queues.{pushed_kept, pushed_there, pushed_length}

pub returns-then-from-to-clause-risen : goal.returns-then-from-to-clause-risen
returns-then-from-to-clause-risen g c = λ l. absurd (omega (arith, l, step_same c.args.ground.now c.args.from.now.spot.at c.args.to.at c.if-from-to.true))

pub returns-then-there-value-clause-risen : goal.returns-then-there-value-clause-risen
returns-then-there-value-clause-risen g c = λ l.
    let s = (step_least c.args.ground.now c.args.from.now.spot.at c.args.to.at l).0 in
    let v = c.cost_at-there.ensures.value in
    let k : c.cost_at-there.result < c.args.value + step_of c.args.ground.now c.args.from.now.spot.at c.args.to.at = omega (arith, s, c.requires.own.0, c.least_step.ensures, c.if-there-value.true) in
    record { above = λ m. absurd (omega (arith, m, k, v)); level = λ m. absurd (omega (arith, m, k, v)) }

pub returns-then-friction-eq0-clause-risen : goal.returns-then-friction-eq0-clause-risen
returns-then-friction-eq0-clause-risen g c = λ l. absurd (omega (arith, l, step_to_barrier c.args.ground.now c.args.from.now.spot.at c.args.to.at (sym c.friction-friction.ensures.value ∙ c.if-friction-eq0.true)))

there : (g : Over) (c : After-weigh g) → c.cost_at-there.result ≡ values c.args.ground.now.limit c.args.labels.now.cells c.args.to.at
there g c = c.cost_at-there.ensures.value

step : (g : Over) (c : After-weigh g) → c.weigh.result ≡ step_of c.args.ground.now c.args.from.now.spot.at c.args.to.at
step g c =
    let f = friction_at c.args.ground.now.friction c.args.to.at in
    let o : 0 < f = omega (arith, c.friction-friction.ensures.value, c.if-friction-eq0.false) in
    let u : 0 < friction_at c.args.ground.now.friction c.args.from.now.spot.at = omega (arith, c.requires.own.0, c.requires.own.1) in
    let e = step_weighed c.args.ground.now c.args.from.now.spot c.args.to c.requires.spots.0 c.requires.spots.1 c.requires.near c.if-from-to.false u o in
    c.weigh.ensures.value ∙ ap (λ n. weighed c.args.from.now.spot c.args.to n c.friction-friction.result) c.requires.own.0 ∙ ap (λ n. weighed c.args.from.now.spot c.args.to (friction_at c.args.ground.now.friction c.args.from.now.spot.at) n) c.friction-friction.ensures.value ∙ sym e

pub returns-then-there-cost-clause-risen : goal.returns-then-there-cost-clause-risen
returns-then-there-cost-clause-risen g c = λ l.
    let d = (goal.at.returns-then-there-cost-clause-risen g c).After-weigh in
    record { above = λ m. absurd (omega (arith, m, step g d, there g d, c.if-there-cost.true)); level = λ m. absurd (omega (arith, m, step g d, there g d, c.if-there-cost.true)) }

pub returns-then-there-cost-2-clause-kept : goal.returns-then-there-cost-2-clause-kept
returns-then-there-cost-2-clause-kept g c = pushed_kept _ _ _ c.in_ok-push.ensures

pub returns-then-there-cost-2-clause-risen : goal.returns-then-there-cost-2-clause-risen
returns-then-there-cost-2-clause-risen g c = λ l.
    let d = (goal.at.returns-then-there-cost-2-clause-risen g c).After-weigh in
    let P : ℕ → Type 0 = λ k. Contains c.push.new.self (k, c.args.to.at) in
    record { above = λ m. absurd (omega (arith, m, step g d, there g d, c.if-there-cost-2.true)); level = λ m. subst P (there g d) (pushed_there _ _ _ c.in_ok-push.ensures) }

pub returns-then-there-cost-2-clause-len : goal.returns-then-there-cost-2-clause-len
returns-then-there-cost-2-clause-len g c = pushed_length _ _ _ c.in_ok-push.ensures

pub returns-clause-risen : goal.returns-clause-risen
returns-clause-risen g c =
    let d = (goal.at.returns-clause-risen g c).After-weigh in
    on_ok_weaker c.look.result (λ q l. record { above = λ m. q; level = λ m. absurd (omega (arith, m, step g d, there g d, c.if-there-cost-2.false)) }) c.look.ensures.queued
