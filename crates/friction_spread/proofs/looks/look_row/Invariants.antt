use Rattle.std.proofs.Common.{◌+◌, ◌-◌, ◌*◌, ◌≤◌, length}
use Rattle.layer_tiles.specs.Tallies.{RisesBy}
use Rattle.friction_spread.specs.Costs.{values, net_of}
use Rattle.friction_spread.proofs.looks.look_row.Given as goal
use Rattle.least_costs.specs.Queue.{IsKept}
use Rattle.friction_spread.specs.Near.{AreSeen}
use Rattle.friction_spread.specs.Rows.{RowQueuedTo}

abbrev pub invariant-loop-c : goal.invariant-loop-c
invariant-loop-c g l = record {
  kept : IsKept l.initial.queue l.queue;
  queued : RowQueuedTo (net_of l.ground) l.ground.size (values l.ground.limit l.labels.cells) l.queue l.fn.from.at l.row l.c;
  seen : AreSeen l.ground (values l.ground.limit l.labels.cells) l.queue l.seen;
  len : length l.queue ≤ length l.initial.queue + (l.c - l.low);
  picks : RisesBy 0 (21 * (l.c - l.low)) (g.M.Tally.counts l.initial.tally) (g.M.Tally.counts l.tally);
}
