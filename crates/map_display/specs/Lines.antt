-- Lines of a legend and of a table, by what the code holds of each.
use Rattle.std.specs.Prelude.{ℕ, List, [], ◌∷◌, ◌++◌, flat_map, codes}
use Rattle.map_defs.specs.Ops.{Name}
use Rattle.statement_parser.specs.Canonical.{cell_text}
use Rattle.map_edits.specs.Marks.{Mark}
use Rattle.map_machine.specs.Causes.{counted}
use Rattle.map_machine.specs.Signs.{sign_of}
use Rattle.map_machine.specs.Displays.{label_tail, label_of}
use Rattle.cell_kinds.specs.declared.kinds.Kind.{Kind}
use Rattle.cell_kinds.specs.declared.combinations.Combination.{Combination}

abbrev pub counted_kind : Name → List Mark → List Mark → Kind → List ℕ
counted_kind n labels symbols k = counted (cell_text k.cell) k.count ++ codes " " ++ sign_of symbols n k.cell ∷ [] ++ label_tail (label_of labels n k.cell) ++ codes "\n"

abbrev pub counted_kinds_lines : Name → List Mark → List Mark → List Kind → List ℕ
counted_kinds_lines n labels symbols kinds = flat_map (counted_kind n labels symbols) kinds

abbrev pub combination_line : Combination → List ℕ
combination_line c = counted (cell_text c.zone ++ codes " " ++ cell_text c.value) c.count ++ codes "\n"
