use Rattle.std.proofs.Common.{◌≡◌, ℕ, ◌++◌, length, Some, slice_get}
use Rattle.std.specs.Vec.Iter.{into_iter_items, into_iter_len}
use Rattle.op_jobs.proofs.kinds.all_of.Given as goal

abbrev pub invariant-loop-part : goal.invariant-loop-part
invariant-loop-part g l = record {
  every : l.yielded ++ into_iter_items l.part-iterator ≡ l.fn.parts.items;
  left : into_iter_len l.part-iterator ≡ length (into_iter_items l.part-iterator);
  count : length l.all.items ≡ length l.yielded;
  each : (k : ℕ) (b : g.row.K.Denot) → slice_get l.all.items k ≡ Some b → slice_get l.fn.parts.items k ≡ Some (g.K.Kind.part b);
}
