use Rattle.std.proofs.Common.{◌≡◌, ◌≤◌, ◌+◌}
use Rattle.map_marks.proofs.Searching.{others_from}
use Rattle.map_marks.proofs.marks.Marks.count_with.Given as goal

abbrev pub invariant-loop-mark : goal.invariant-loop-mark
invariant-loop-mark l = record {
  few : l.count ≤ l.mark-index + 1;
  others : l.count + others_from l.mark-items l.name l.value l.mark-index ≡ 1 + others_from l.mark-items l.name l.value 0;
}
