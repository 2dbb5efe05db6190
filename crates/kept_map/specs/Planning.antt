-- What is planned of the statements of a map after an edit.
use Rattle.std.specs.Prelude.{◌≡◌, ℕ, ◌+◌, ◌≤◌, false, List, length, Some, is_some, position, bytes_eq}
use Rattle.std.specs.Map.{lookup}
use Rattle.map_defs.specs.Ops.{Name}
use Rattle.statement_parser.specs.Views.{op_view}
use Rattle.statement_parser.specs.declared.op.Op.{Op as Given}
use Rattle.map_edits.specs.LayerDefs.{by_op, layers, find_making, nodes_of}
use Rattle.map_edits.specs.WholeStates.{WholeState}
use Rattle.map_edits.specs.WholeEdits.{WholeEdit}
use Rattle.map_edits.specs.Touches.{touch_of, is_whole}
use Rattle.map_edits.specs.Limits.{most_sources, most_flats}
use Rattle.map_waves.specs.declared.plans.Step.{Step}
use Rattle.map_waves.specs.declared.plans.Shift.{Shift}
use Rattle.edit_plans.specs.Planned.{FlatDef, IsPlanned}
use Rattle.op_jobs.specs.Ranges.{HasRanges}
use Rattle.kept_map.specs.Edits.{IsSetUp}
use Rattle.kept_map.specs.declared.maps.KeptMap.{KeptMap}

-- a flat statement of the state that an edit would make; its name isn't that of a source of the map
pub record IsFlatAfter (m : KeptMap) (e : WholeEdit) (t : WholeState) (n : Name) (f : FlatDef) : Type 0 where
  pub making : find_making (layers t.names.entries) n ≡ Some (by_op (op_view f.op))
  pub written : f.written ≡ is_whole t.names.entries (touch_of e) n
  pub ranges : HasRanges (op_view f.op)
  pub no_source : is_some (position (bytes_eq n) m.sources.names.keys) ≡ false

-- the steps are planned from such flat statements
pub record IsPlannedFor (m : KeptMap) (e : WholeEdit) (t : WholeState) (shift : Shift) (sources names : List Name) (steps : List (Step Given)) : Type 0 where
  pub set_up : IsSetUp m e t shift sources
  pub few : length (nodes_of t.names.entries) ≤ most_sources + most_flats
  pub flats : List (List ℕ × FlatDef)
  pub each : (n : Name) (f : FlatDef) → lookup (bytes_eq n) flats ≡ Some f → IsFlatAfter m e t n f
  pub planned : IsPlanned (nodes_of t.names.entries) sources flats m.planned.names.keys names steps
