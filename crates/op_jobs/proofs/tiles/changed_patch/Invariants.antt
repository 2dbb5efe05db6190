use Rattle.std.proofs.Common.{◌≡◌, ◌++◌, length}
use Rattle.std.specs.Vec.Iter.{into_iter_items, into_iter_len}
use Rattle.op_jobs.specs.Pieces.{tiles_of}
use Rattle.op_jobs.proofs.tiles.changed_patch.Given as goal

abbrev pub invariant-loop-piece : goal.invariant-loop-piece
invariant-loop-piece l = record {
  every : l.yielded ++ into_iter_items l.piece-iterator ≡ l.fn.pieces.items;
  left : into_iter_len l.piece-iterator ≡ length (into_iter_items l.piece-iterator);
  place : l.k ≡ length l.yielded;
  size : l.patch.size ≡ l.fn.extent;
  tiles : l.patch.tiles ≡ tiles_of l.tiles l.yielded;
}
