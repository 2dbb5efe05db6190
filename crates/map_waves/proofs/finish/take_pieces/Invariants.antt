use Rattle.std.proofs.Common.{◌≡◌, ℕ, ◌+◌, length, drop, Some, Ok, slice_get}
use Rattle.std.specs.Vec.Iter.{into_iter_items, into_iter_len}
use Rattle.map_waves.proofs.finish.take_pieces.Given as goal

abbrev pub invariant-loop-place : goal.invariant-loop-place
invariant-loop-place g l = record {
  rest : into_iter_items l.answers ≡ drop l._place (into_iter_items l.fn.answers);
  left : into_iter_len l.answers + l._place ≡ into_iter_len l.fn.answers;
  count : length l.pieces.items ≡ l._place;
  each : (k : ℕ) (p : g.row.P.Denot) → slice_get l.pieces.items k ≡ Some p → slice_get (into_iter_items l.fn.answers) k ≡ Some (Ok p);
}
