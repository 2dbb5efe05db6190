-- An edit that drops a name.
use Rattle.map_defs.specs.Ops.{Name}
use Rattle.map_edits.specs.EditForms.{drop_name}
use Rattle.map_edits.specs.WholeEdits.{WholeEdit, of_names}

abbrev pub drops : Name → WholeEdit
drops n = of_names (drop_name n)
