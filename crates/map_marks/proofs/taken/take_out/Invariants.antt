use Rattle.std.proofs.Common.{◌≡◌, ◌≤◌, map, not, vec_len, vec_capacity}
use Rattle.map_edits.specs.Marks.{Mark as Kept, is_mark}
use Rattle.map_marks.specs.Views.{mark_of}
use Rattle.map_marks.proofs.Taking.{IsTakenTo}
use Rattle.map_marks.proofs.taken.take_out.Given as goal

abbrev pub invariant-loop-place : goal.invariant-loop-place
invariant-loop-place l = record {
  so_far : IsTakenTo (λ (m : Kept). not (is_mark l.name l.value m)) (map mark_of l.fn.marks.items) l.marks.items l.taken.items l.place;
  within : l.place ≤ vec_len l.marks;
  len : vec_len l.marks ≤ vec_len l.fn.marks;
  marks : vec_capacity l.marks ≡ vec_capacity l.fn.marks;
  taken : vec_capacity l.taken ≡ vec_capacity l.fn.taken;
}

abbrev pub decreases-loop-place : goal.decreases-loop-place
decreases-loop-place l = l.place
