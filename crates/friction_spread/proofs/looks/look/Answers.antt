use Rattle.std.proofs.Common.{◌≡◌, ℕ, min, arith, subst}
use Rattle.std.specs.List.{Contains}
use Rattle.map_defs.specs.Nets.{equation}
use Rattle.friction_spread.specs.Costs.{values, net_of}
use Rattle.friction_spread.proofs.looks.look.Goals as goal
use Rattle.least_costs.proofs.Queues.{pushed_kept, pushed_there, pushed_length}

pub returns-clause-kept : goal.returns-clause-kept
returns-clause-kept g c = pushed_kept _ _ _ c.in_ok-push.ensures

pub returns-clause-queued : goal.returns-clause-queued
returns-clause-queued g c = λ _.
    let limit = c.args.ground.now.limit in
    let v : c.cost_at-value.result ≡ values limit c.args.labels.now.cells c.args.at.at =
    c.cost_at-value.ensures.value in
    let m : c.min.result ≡ min (values limit c.args.labels.now.cells c.args.at.at) (equation (net_of c.args.ground.now) (values limit c.args.labels.now.cells) c.args.at.at) = omega (arith, c.equation-other.ensures.value, v, c.min.ensures) in
    let P : ℕ → Type 0 = λ k. Contains c.push.new.self (k, c.args.at.at) in
    subst P m (pushed_there _ _ _ c.in_ok-push.ensures)

pub returns-clause-len : goal.returns-clause-len
returns-clause-len g c = pushed_length _ _ _ c.in_ok-push.ensures
