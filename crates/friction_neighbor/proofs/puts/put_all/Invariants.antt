use Rattle.std.proofs.Common.{◌≡◌, ℕ, ◌+◌, ◌*◌, ◌<◌, ◌≤◌, length, get_or}
use Rattle.layer_tiles.specs.Tallies.{RisesBy}
use Rattle.friction_neighbor.specs.Puts.{ArePut, RoundMarked}
use Rattle.friction_neighbor.proofs.puts.put_all.Given as goal

abbrev pub invariant-loop-at : goal.invariant-loop-at
invariant-loop-at g l = record {
  size : l.seen.size ≡ l.field.field.ground.size;
  put : ArePut l.field.field l.initial.queue l.initial.seen l.queue l.seen;
  marked : (k : ℕ) → k < l.at-index → RoundMarked l.field.field 0 l.seen (get_or l.places k 0);
  len : length l.queue ≤ length l.initial.queue + 9 * l.at-index;
  picks : RisesBy 0 (9 * l.at-index) (g.M.Tally.counts l.initial.tally) (g.M.Tally.counts l.tally);
}
