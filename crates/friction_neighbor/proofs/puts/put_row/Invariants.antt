use Rattle.std.proofs.Common.{◌≡◌, ◌+◌, ◌-◌, ◌≤◌, length}
use Rattle.layer_tiles.specs.Tallies.{RisesBy}
use Rattle.friction_neighbor.specs.Puts.{ArePut, RowMarkedTo}
use Rattle.friction_neighbor.proofs.puts.put_row.Given as goal

abbrev pub invariant-loop-c : goal.invariant-loop-c
invariant-loop-c g l = record {
  size : l.seen.size ≡ l.field.field.ground.size;
  put : ArePut l.field.field l.initial.queue l.initial.seen l.queue l.seen;
  marked : RowMarkedTo l.field.field l.floor l.seen l.fn.from.at l.row l.c;
  len : length l.queue ≤ length l.initial.queue + (l.c - l.low);
  picks : RisesBy 0 (l.c - l.low) (g.M.Tally.counts l.initial.tally) (g.M.Tally.counts l.tally);
}
