use Rattle.std.proofs.Common.{◌≡◌, ◌+◌, ◌≤◌, map, vec_len, vec_capacity}
use Rattle.map_marks.specs.Views.{mark_of}
use Rattle.map_marks.specs.Taken.{given_back}
use Rattle.map_marks.proofs.taken.put_back.Given as goal

abbrev pub invariant-loop-place : goal.invariant-loop-place
invariant-loop-place l = record {
  given : given_back (map mark_of l.marks.items) l.taken.items ≡ given_back (map mark_of l.fn.marks.items) l.fn.taken.items;
  room : vec_len l.marks + vec_len l.taken ≤ vec_capacity l.marks;
}

abbrev pub decreases-loop-place : goal.decreases-loop-place
decreases-loop-place l = vec_len l.taken
