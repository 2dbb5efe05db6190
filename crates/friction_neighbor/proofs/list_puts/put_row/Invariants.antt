use Rattle.std.proofs.Common.{◌≡◌}
use Rattle.friction_neighbor.specs.Puts.{ArePut, RowMarkedTo}
use Rattle.friction_neighbor.proofs.list_puts.put_row.Given as goal

abbrev pub invariant-loop-c : goal.invariant-loop-c
invariant-loop-c l = record {
  size : l.seen.size ≡ l.field.ground.size;
  put : ArePut l.field l.initial.queue l.initial.seen l.queue l.seen;
  marked : RowMarkedTo l.field l.floor l.seen l.fn.from.at l.row l.c;
}
