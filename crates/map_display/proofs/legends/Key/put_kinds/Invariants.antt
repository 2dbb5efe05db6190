use Rattle.std.proofs.Common.{◌≡◌, ◌++◌, List, take}
use Rattle.map_defs.specs.Ops.{Name}
use Rattle.map_edits.specs.Marks.{Mark}
use Rattle.map_display.specs.Lines.{counted_kinds_lines}
use Rattle.map_display.specs.OfLayer.{IsKey}
use Rattle.map_display.proofs.legends.Key.put_kinds.Given as goal

abbrev pub invariant-loop-kind : goal.invariant-loop-kind
invariant-loop-kind l = (labels symbols : List Mark) (n : Name) → IsKey labels symbols n l.self → l.text.items ≡ l.initial.text.items ++ counted_kinds_lines n labels symbols (take l.kind-index l.kinds)
