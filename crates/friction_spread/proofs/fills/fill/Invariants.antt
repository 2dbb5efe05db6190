use Rattle.std.proofs.Common.{ℕ, ◌≤◌}
use Rattle.least_costs.specs.Filling.{IsFilling, left_to_do}
use Rattle.friction_spread.specs.Costs.{base_of, net_of}
use Rattle.friction_spread.specs.Flat.{costs_of}
use Rattle.friction_spread.proofs.fills.fill.Given as goal

abbrev pub invariant-loop-key : goal.invariant-loop-key
invariant-loop-key l = record {
  filling : IsFilling (net_of l.ground) (costs_of l.ground l.costs) l.queue;
  begun : (i : ℕ) → costs_of l.ground l.costs i ≤ base_of l.ground i;
}

abbrev pub decreases-loop-key : goal.decreases-loop-key
decreases-loop-key l = left_to_do (net_of l.ground) (costs_of l.ground l.costs) l.queue
