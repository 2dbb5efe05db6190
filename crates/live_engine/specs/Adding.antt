-- An edit that adds a source.
use Rattle.std.specs.Prelude.{◌≡◌, List}
use Rattle.map_nums.specs.Grids.{Grid}
use Rattle.map_defs.specs.Ops.{Name}
use Rattle.map_edits.specs.EditForms.{Edit, edited}
use Rattle.map_edits.specs.EntriesAfter.{add_source, entries_with}
use Rattle.map_edits.specs.GroupLaws.{IsPlainEdit}
use Rattle.map_edits.specs.Marks.{Mark}
use Rattle.map_edits.specs.Attempts.{marks_after}
use Rattle.map_edits.specs.Touches.{whole, touch_of_names}
use Rattle.map_edits.specs.WholeStates.{WholeState}

-- a load, or a new layer
pub record IsAdding (s : WholeState) (edit : Edit) (n : Name) (grid : Grid) : Type 0 where
  pub after : entries_with s.procedures s.names edit ≡ add_source s.names.entries n grid
  pub touch : touch_of_names edit ≡ whole n
  pub named : edited edit ≡ n
  pub plain : IsPlainEdit edit
  pub marks : (ms : List Mark) → marks_after edit ms ≡ ms
