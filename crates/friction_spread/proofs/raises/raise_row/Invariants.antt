use Rattle.std.proofs.Common.{◌+◌, ◌-◌, ◌*◌, ◌≤◌, length}
use Rattle.layer_tiles.specs.Tallies.{RisesBy}
use Rattle.friction_spread.specs.Costs.{values, net_of}
use Rattle.friction_spread.proofs.raises.raise_row.Given as goal
use Rattle.least_costs.specs.Queue.{IsKept}
use Rattle.friction_spread.specs.Rows.{RowRisenTo}

abbrev pub invariant-loop-c : goal.invariant-loop-c
invariant-loop-c g l = record {
  kept : IsKept l.initial.queue l.queue;
  risen : RowRisenTo (net_of l.ground) l.ground.size l.value (values l.ground.limit l.labels.cells) l.queue l.from.spot.at l.row l.c;
  len : length l.queue ≤ length l.initial.queue + (l.c - l.low);
  picks : RisesBy 0 (23 * (l.c - l.low)) (g.M.Tally.counts l.initial.tally) (g.M.Tally.counts l.tally);
}
