use Rattle.std.proofs.Common.{◌≡◌, take}
use Rattle.map_marks.proofs.marks.Marks.copy.Given as goal

abbrev pub invariant-loop-mark : goal.invariant-loop-mark
invariant-loop-mark l = l.kept.items ≡ take l.mark-index l.mark-items
