use Rattle.std.proofs.Common.{◌≡◌, ◌++◌, List, map, take}
use Rattle.map_defs.specs.Ops.{Name}
use Rattle.map_edits.specs.Marks.{Mark}
use Rattle.map_machine.specs.Signs.{sign_of}
use Rattle.map_display.specs.OfLayer.{AreSigns}
use Rattle.map_display.proofs.shows.put_signs.Given as goal

abbrev pub invariant-loop-cell : goal.invariant-loop-cell
invariant-loop-cell l = (symbols : List Mark) (n : Name) → AreSigns symbols n l.signs → l.text.items ≡ l.initial.text.items ++ map (sign_of symbols n) (take l.cell-index l.row)
