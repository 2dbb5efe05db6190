use Rattle.std.proofs.Common.{List, ap, arith}
use Rattle.std.proofs.lemmas.Int.{ints}
use Rattle.zonal_totals.specs.declared.steps.Step.{Step}
use Rattle.zonal_totals.specs.Steps.{net_in, weight}
use Rattle.zonal_totals.proofs.Merging.{net_join}
use Rattle.zonal_totals.proofs.Settling.{weight_join}
use Rattle.zonal_totals.proofs.running_counts.RunningCounts.into_steps.Goals as goal

pub returns-clause-net : goal.returns-clause-net
returns-clause-net c = λ p.
    let rs = c.args.self.recent.items in
    let ss = c.args.self.steps.items in
    let net = ap (λ (l : List Step). net_in l p) c.in_ok-extend_from_slice.ensures.items in
    omega (arith, ints, net, net_join ss c.deref.result.now p, net_join rs ss p, ap (λ (l : List Step). net_in l p) c.deref.ensures.value)

pub returns-clause-weight : goal.returns-clause-weight
returns-clause-weight c =
    let rs = c.args.self.recent.items in
    let ss = c.args.self.steps.items in
    omega (arith, ap weight c.in_ok-extend_from_slice.ensures.items, weight_join ss c.deref.result.now, weight_join rs ss, ap weight c.deref.ensures.value)
