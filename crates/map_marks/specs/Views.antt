-- A label or a symbol as the code holds it.
use Rattle.std.specs.Prelude.{List, map}
use Rattle.map_edits.specs.Marks.{Mark as Kept}
use Rattle.map_marks.specs.declared.mark.Mark.{Mark}

abbrev pub mark_of : Mark → Kept
mark_of m = record { name = m.name; value = m.value; text = m.text }
