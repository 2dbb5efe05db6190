use Rattle.std.proofs.Common.{◌≡◌, map}
use Rattle.map_edits.specs.Marks.{find_mark}
use Rattle.map_marks.specs.Views.{mark_of}
use Rattle.map_marks.proofs.Searching.{kept_from}
use Rattle.map_marks.proofs.marks.Marks.find.Given as goal

abbrev pub invariant-loop-mark : goal.invariant-loop-mark
invariant-loop-mark l = find_mark (kept_from l.mark-items l.mark-index) l.name l.value ≡ find_mark (map mark_of l.mark-items) l.name l.value
