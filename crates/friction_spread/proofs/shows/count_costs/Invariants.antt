use Rattle.std.proofs.Common.{◌≡◌, ◌≤◌, suc, [], get_or}
use Rattle.least_costs.specs.Ranks.{changed}
use Rattle.friction_spread.specs.Costs.{values}
use Rattle.friction_spread.proofs.shows.count_costs.Given as goal

abbrev pub invariant-loop-cost : goal.invariant-loop-cost
invariant-loop-cost l = record {
  few : l.count ≤ l.cost-index;
  counted : l.count ≡ changed (values l.limit []) (λ i. get_or l.costs i (suc l.limit)) l.cost-index;
}
