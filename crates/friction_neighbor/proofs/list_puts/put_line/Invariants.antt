use Rattle.std.proofs.Common.{◌≡◌, ℕ, ◌<◌, true}
use Rattle.map_nums.specs.Grids.{cells_in, row_of, column_of}
use Rattle.friction_neighbor.specs.Puts.{is_marked, ArePut}
use Rattle.friction_neighbor.proofs.list_puts.put_line.Given as goal

abbrev pub invariant-loop-c : goal.invariant-loop-c
invariant-loop-c l = record {
  size : l.seen.size ≡ l.field.ground.size;
  put : ArePut l.field l.initial.queue l.initial.seen l.queue l.seen;
  marked : (i : ℕ) → i < cells_in l.field.ground.size → row_of l.field.ground.size i ≡ l.row → column_of l.field.ground.size i < l.c → is_marked l.seen i ≡ true;
}
