-- The edit that a line stands for.
use Rattle.statement_parser.specs.Lines as lines
use Rattle.map_edits.specs.EditForms.{new_layer, paint, define, drop_name}
use Rattle.map_edits.specs.WholeEdits.{WholeEdit, of_names, define_procedure, label, symbol}

abbrev pub line_edit : lines.Edit → WholeEdit
line_edit (lines.define n w) = of_names (define n w)
line_edit (lines.define_procedure p) = define_procedure p
line_edit (lines.paint n r1 c1 r2 c2 cell) = of_names (paint n (record { top = r1; left = c1; bottom = r2; right = c2 }) cell)
line_edit (lines.new_layer n cell) = of_names (new_layer n cell)
line_edit (lines.drop n) = of_names (drop_name n)
line_edit (lines.put_label n z text) = label n z text
line_edit (lines.put_symbol n z sign) = symbol n z sign
