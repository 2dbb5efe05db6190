-- What an edit of a map is, before its statements are planned and repaired.
use Rattle.std.specs.Prelude.{◌≡◌, ℕ, ◌+◌, ◌≤◌, List, length, count_by, false, Some, Ok, slice_get, bytes_eq}
use Rattle.std.specs.Map.{lookup}
use Rattle.map_defs.specs.Ops.{Name, Op}
use Rattle.layer_tiles.specs.Changes.{ChangeState}
use Rattle.statement_parser.specs.Views.{op_view}
use Rattle.procedure_expand.specs.declared.flat.Flat.{Flat}
use Rattle.statement_graph.specs.Groups.{Group}
use Rattle.op_jobs.specs.Ranges.{HasRanges}
use Rattle.map_edits.specs.LayerDefs.{by_op, layers, find_making, nodes_of}
use Rattle.map_edits.specs.WholeStates.{WholeState}
use Rattle.map_edits.specs.WholeEdits.{WholeEdit}
use Rattle.map_edits.specs.Attempts.{attempted}
use Rattle.map_edits.specs.Touches.{touch_of, is_whole}
use Rattle.map_edits.specs.Limits.{is_source, is_flat, most_sources, most_flats}
use Rattle.map_edits.specs.GroupLaws.{IsSaid}
use Rattle.map_waves.specs.Bases.{source_by, new_sources, IsShift}
use Rattle.map_waves.specs.Operands.{IsOperand}
use Rattle.map_waves.specs.declared.plans.Shift.{Shift}
use Rattle.edit_plans.specs.PlansFor.{IsChangeOf}
use Rattle.edit_plans.specs.Planned.{FlatDef}
use Rattle.edit_plans.specs.Planned.{AreSources}
use Rattle.kept_map.specs.Groups.{groups_of}
use Rattle.kept_map.specs.Maps.{names_in, seen}
use Rattle.kept_map.specs.Flats.{flats_after}
use Rattle.kept_map.specs.declared.maps.KeptMap.{KeptMap}

-- what an edit makes of the source at a place
abbrev pub change_in : KeptMap → Shift → ℕ → ChangeState
change_in m shift i = source_by m.extent shift i (slice_get m.sources.layers.items i)

-- the state that an edit would make, and what becomes of the sources, which have these names
pub record IsSetUp (m : KeptMap) (e : WholeEdit) (t : WholeState) (shift : Shift) (sources : List Name) : Type 0 where
  pub said : IsSaid (seen m) e
  pub attempt : attempted (seen m) e ≡ Ok t
  pub shift_is : IsShift m.extent shift
  pub operands : (i : ℕ) → IsOperand m.extent (change_in m shift i)
  pub changes : (i : ℕ) (n : Name) → slice_get sources i ≡ Some n → IsChangeOf (names_in m) t.names n (change_in m shift i)
  pub count : length sources ≡ length m.sources.layers.items + new_sources shift

-- its names, and the flat statements that are those of the map but for an edited name's, which are these
pub record IsReplanned (m : KeptMap) (e : WholeEdit) (t : WholeState) (sources : List Name) (graph : List Group) (edited : Name) (written : List Flat) : Type 0 where
  pub graph_is : graph ≡ groups_of t.names.entries
  pub stand : AreSources (nodes_of t.names.entries) sources
  pub makings : (n : Name) (f : FlatDef) → lookup (bytes_eq n) (flats_after m.names.entries edited written) ≡ Some f → find_making (layers t.names.entries) n ≡ Some (by_op (op_view f.op))
  pub found : (n : Name) (op : Op) → find_making (layers t.names.entries) n ≡ Some (by_op op) → (f : FlatDef) × (lookup (bytes_eq n) (flats_after m.names.entries edited written) ≡ Some f)
  pub touched : (n : Name) (f : FlatDef) → lookup (bytes_eq n) (flats_after m.names.entries edited written) ≡ Some f → f.written ≡ is_whole t.names.entries (touch_of e) n
  pub ranges : (n : Name) (f : FlatDef) → lookup (bytes_eq n) (flats_after m.names.entries edited written) ≡ Some f → HasRanges (op_view f.op)
  pub sources_few : count_by is_source t.names.entries ≤ most_sources
  pub flats_few : count_by is_flat (layers t.names.entries) ≤ most_flats

-- the plan stays: each statement is as it was, and the edit wrote none
pub record IsSamePlan (m : KeptMap) (e : WholeEdit) (t : WholeState) : Type 0 where
  pub nodes : nodes_of t.names.entries ≡ nodes_of (names_in m).entries
  pub makings : (n : Name) (op : Op) → find_making (layers (names_in m).entries) n ≡ Some (by_op op) → find_making (layers t.names.entries) n ≡ Some (by_op op)
  pub untouched : (n : Name) (op : Op) → find_making (layers (names_in m).entries) n ≡ Some (by_op op) → is_whole t.names.entries (touch_of e) n ≡ false
