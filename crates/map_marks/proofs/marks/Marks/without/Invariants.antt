use Rattle.std.proofs.Common.{◌≡◌, take, filter, not, bytes_eq}
use Rattle.map_marks.specs.declared.mark.Mark.{Mark}
use Rattle.map_marks.proofs.marks.Marks.without.Given as goal

abbrev pub invariant-loop-mark : goal.invariant-loop-mark
invariant-loop-mark l = l.kept.items ≡ filter (λ (m : Mark). not (bytes_eq m.name l.name)) (take l.mark-index l.mark-items)
