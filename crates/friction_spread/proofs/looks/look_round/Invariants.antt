use Rattle.std.proofs.Common.{◌+◌, ◌-◌, ◌*◌, ◌≤◌, length}
use Rattle.layer_tiles.specs.Tallies.{RisesBy}
use Rattle.friction_spread.specs.Costs.{values, net_of}
use Rattle.friction_spread.proofs.looks.look_round.Given as goal
use Rattle.least_costs.specs.Queue.{IsKept}
use Rattle.friction_spread.specs.Near.{AreSeen}
use Rattle.friction_spread.specs.Rows.{RoundQueuedTo}

abbrev pub invariant-loop-r : goal.invariant-loop-r
invariant-loop-r g l = record {
  kept : IsKept l.initial.queue l.queue;
  queued : RoundQueuedTo (net_of l.ground) l.ground.size (values l.ground.limit l.labels.cells) l.queue l.from.at l.r;
  seen : AreSeen l.ground (values l.ground.limit l.labels.cells) l.queue l.seen;
  len : length l.queue ≤ length l.initial.queue + 3 * (l.r - l.low);
  picks : RisesBy 0 (63 * (l.r - l.low)) (g.M.Tally.counts l.initial.tally) (g.M.Tally.counts l.tally);
}
