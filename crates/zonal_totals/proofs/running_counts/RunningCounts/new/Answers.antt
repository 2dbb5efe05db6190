use Rattle.std.proofs.Common.{rules, ◌≡◌, List, ap, arith, replicate, pos}
use Rattle.std.proofs.lemmas.Int.{ints}
use Rattle.zonal_totals.specs.declared.pairs.Pair.{Pair}
use Rattle.zonal_totals.specs.declared.steps.Step.{Step}
use Rattle.zonal_totals.specs.Steps.{net_in, weight}
use Rattle.zonal_totals.proofs.Merging.{net_join}
use Rattle.zonal_totals.proofs.Settling.{weight_join}
use Rattle.zonal_totals.proofs.Running.{nothing_net, nothing_weight}
use Rattle.zonal_totals.proofs.running_counts.RunningCounts.new.Goals as goal

abbrev none : Pair
none = record { zone = pos 0; key = pos 0 }

pub returns-clause-none : goal.returns-clause-none
returns-clause-none c = λ p.
    let rs = c.in_ok-vec.field-0.items in
    let e : rs ≡ replicate c.args.slots (record { pair = none; by = pos 0 }) = search rules in
    omega (arith, ints, net_join rs c.new.result.items p, ap (λ (l : List Step). net_in l p) e, nothing_net c.args.slots none p, ap (λ (l : List Step). net_in l p) c.new.ensures.items)

pub returns-clause-weight : goal.returns-clause-weight
returns-clause-weight c =
    let rs = c.in_ok-vec.field-0.items in
    let e : rs ≡ replicate c.args.slots (record { pair = none; by = pos 0 }) = search rules in
    omega (arith, weight_join rs c.new.result.items, ap weight e, nothing_weight c.args.slots none, ap weight c.new.ensures.items)
