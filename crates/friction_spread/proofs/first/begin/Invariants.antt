use Rattle.std.proofs.Common.{ℕ, ◌<◌, ◌≤◌}
use Rattle.least_costs.specs.Filling.{IsFilling}
use Rattle.friction_spread.specs.Costs.{base_of, net_of}
use Rattle.friction_spread.specs.Flat.{costs_of}
use Rattle.friction_spread.proofs.first.begin.Given as goal

abbrev pub invariant-loop-at : goal.invariant-loop-at
invariant-loop-at l = record {
  filling : IsFilling (net_of l.ground) (costs_of l.ground l.costs) l.queue;
  begun : (i : ℕ) → i < l.at → costs_of l.ground l.costs i ≤ base_of l.ground i;
}
