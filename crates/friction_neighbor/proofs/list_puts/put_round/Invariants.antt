use Rattle.std.proofs.Common.{◌≡◌}
use Rattle.friction_neighbor.specs.Puts.{ArePut, RoundMarkedTo}
use Rattle.friction_neighbor.proofs.list_puts.put_round.Given as goal

abbrev pub invariant-loop-r : goal.invariant-loop-r
invariant-loop-r l = record {
  size : l.seen.size ≡ l.field.ground.size;
  put : ArePut l.field l.initial.queue l.initial.seen l.queue l.seen;
  marked : RoundMarkedTo l.field l.floor l.seen l.from.at l.r;
}
