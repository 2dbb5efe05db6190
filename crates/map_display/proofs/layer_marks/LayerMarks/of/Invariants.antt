use Rattle.std.proofs.Common.{◌≡◌, ℤ, map, take, option_map}
use Rattle.std.specs.HashMap.{get}
use Rattle.std.specs.Ordering.{int_eq}
use Rattle.map_edits.specs.Marks.{find_mark}
use Rattle.map_marks.specs.Views.{mark_of}
use Rattle.map_display.proofs.layer_marks.LayerMarks.of.Given as goal

abbrev pub invariant-loop-mark : goal.invariant-loop-mark
invariant-loop-mark l = (z : ℤ) → option_map (λ t. t.now) (get int_eq l.texts z) ≡ find_mark (map mark_of (take l.mark-index l.mark-items)) l.name z
