use Rattle.std.proofs.Common.{◌≡◌, ℕ, ◌+◌, length, drop, Some, Ok, slice_get}
use Rattle.std.specs.Vec.Iter.{into_iter_items, into_iter_len}
use Rattle.map_waves.proofs.parts.all_found.Given as goal

abbrev pub invariant-loop-place : goal.invariant-loop-place
invariant-loop-place g l = record {
  rest : into_iter_items l.rest ≡ drop l._place l.fn.answers.items;
  left : into_iter_len l.rest + l._place ≡ length l.fn.answers.items;
  count : length l.parts.items ≡ l._place;
  each : (k : ℕ) (x : g.row.P.Denot) → slice_get l.parts.items k ≡ Some x → slice_get l.fn.answers.items k ≡ Some (Ok x);
}
