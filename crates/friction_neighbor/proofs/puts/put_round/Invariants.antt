use Rattle.std.proofs.Common.{◌≡◌, ◌+◌, ◌-◌, ◌*◌, ◌≤◌, length}
use Rattle.layer_tiles.specs.Tallies.{RisesBy}
use Rattle.friction_neighbor.specs.Puts.{ArePut, RoundMarkedTo}
use Rattle.friction_neighbor.proofs.puts.put_round.Given as goal

abbrev pub invariant-loop-r : goal.invariant-loop-r
invariant-loop-r g l = record {
  size : l.seen.size ≡ l.field.field.ground.size;
  put : ArePut l.field.field l.initial.queue l.initial.seen l.queue l.seen;
  marked : RoundMarkedTo l.field.field l.floor l.seen l.from.at l.r;
  len : length l.queue ≤ length l.initial.queue + 3 * (l.r - l.low);
  picks : RisesBy 0 (3 * (l.r - l.low)) (g.M.Tally.counts l.initial.tally) (g.M.Tally.counts l.tally);
}
