use Rattle.std.proofs.Common.{ℕ, suc, ◌<◌, ◌≤◌}
use Rattle.std.specs.List.{Contains}
use Rattle.least_costs.specs.Queue.{IsKept}
use Rattle.friction_spread.specs.Flat.{costs_of}
use Rattle.friction_spread.proofs.bands.push_row.Given as goal

abbrev pub invariant-loop-at : goal.invariant-loop-at
invariant-loop-at l = record {
  kept : IsKept l.initial.queue l.queue;
  queued : (i : ℕ) → l.start ≤ i → i < l.at → costs_of l.ground l.costs i < suc l.ground.limit → Contains l.queue (costs_of l.ground l.costs i, i);
}
