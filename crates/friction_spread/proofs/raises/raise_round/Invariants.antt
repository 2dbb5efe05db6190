use Rattle.std.proofs.Common.{◌+◌, ◌-◌, ◌*◌, ◌≤◌, length}
use Rattle.layer_tiles.specs.Tallies.{RisesBy}
use Rattle.friction_spread.specs.Costs.{values, net_of}
use Rattle.friction_spread.proofs.raises.raise_round.Given as goal
use Rattle.least_costs.specs.Queue.{IsKept}
use Rattle.friction_spread.specs.Rows.{RoundRisenTo}

abbrev pub invariant-loop-r : goal.invariant-loop-r
invariant-loop-r g l = record {
  kept : IsKept l.initial.queue l.queue;
  risen : RoundRisenTo (net_of l.ground) l.ground.size l.value (values l.ground.limit l.labels.cells) l.queue l.focus.spot.at l.r;
  len : length l.queue ≤ length l.initial.queue + 3 * (l.r - l.low);
  picks : RisesBy 0 (69 * (l.r - l.low)) (g.M.Tally.counts l.initial.tally) (g.M.Tally.counts l.tally);
}
