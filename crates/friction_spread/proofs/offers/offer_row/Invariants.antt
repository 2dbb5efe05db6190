use Rattle.std.proofs.Common.{◌+◌, ◌-◌, ◌*◌, ◌≤◌, length}
use Rattle.layer_tiles.specs.Tallies.{RisesBy}
use Rattle.friction_spread.specs.Costs.{values, net_of}
use Rattle.friction_spread.proofs.offers.offer_row.Given as goal
use Rattle.least_costs.specs.Queue.{IsKept}
use Rattle.friction_spread.specs.Rows.{RowOfferedTo}

abbrev pub invariant-loop-c : goal.invariant-loop-c
invariant-loop-c g l = record {
  kept : IsKept l.initial.queue l.queue;
  offered : RowOfferedTo (net_of l.ground) l.ground.size (values l.ground.limit l.labels.cells) l.queue l.from.spot.at l.row l.c;
  len : length l.queue ≤ length l.initial.queue + (l.c - l.low);
  picks : RisesBy 0 (2 * (l.c - l.low)) (g.M.Tally.counts l.initial.tally) (g.M.Tally.counts l.tally);
}
