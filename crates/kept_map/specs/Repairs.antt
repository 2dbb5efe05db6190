-- What is made of all statements before anything is put in place.
use Rattle.std.specs.Prelude.{◌≡◌, ℕ, ◌-◌, ◌*◌, ◌≤◌, List, length, Option, Some, None, slice_get, position, bytes_eq}
use Rattle.map_defs.specs.Ops.{Name}
use Rattle.map_defs.specs.Depths.{depth_in, by_depth}
use Rattle.layer_tiles.specs.Tallies.{TallyState, RisesBy}
use Rattle.statement_parser.specs.Views.{op_view}
use Rattle.statement_parser.specs.declared.op.Op.{Op as Given}
use Rattle.map_edits.specs.LayerDefs.{nodes_of}
use Rattle.map_edits.specs.EditCounts.{Counts}
use Rattle.map_edits.specs.WholeStates.{WholeState}
use Rattle.map_edits.specs.WholeEdits.{WholeEdit}
use Rattle.map_edits.specs.Counted.{fault_after}
use Rattle.map_edits.specs.Touches.{touch_of}
use Rattle.map_edits.specs.Allowances.{edit_reads}
use Rattle.map_waves.specs.Keeping.{was_of}
use Rattle.map_waves.specs.Plans.{StepDef, Plan}
use Rattle.map_waves.specs.Bases.{no_step}
use Rattle.map_waves.specs.Prepared.{IsPrepared}
use Rattle.map_waves.specs.declared.keeping.Made.{Made}
use Rattle.map_waves.specs.declared.counting.Counts as told
use Rattle.map_waves.specs.declared.plans.Step.{Step}
use Rattle.map_waves.specs.declared.plans.Shift.{Shift}
use Rattle.op_jobs.specs.Beside.{suits}
use Rattle.op_jobs.specs.Ranges.{HasRanges}
use Rattle.op_jobs.specs.declared.beside.Beside.{Beside}
use Rattle.edit_plans.specs.PlansFor.{IsPlanFor}
use Rattle.edit_plans.specs.Planned.{whole_names}
use Rattle.edit_plans.specs.SourceCounts.{counts_of_touched, counts_to_place}
use Rattle.kept_map.specs.Maps.{at_place, names_in, seen}
use Rattle.kept_map.specs.Edits.{change_in}
use Rattle.kept_map.specs.declared.maps.KeptMap.{KeptMap}
use Rattle.kept_map.specs.declared.repairing.Prepared.{Prepared}

-- ---- the plan of steps over a map

abbrev pub step_in : KeptMap → Option (Step Given) → StepDef
step_in m None = no_step
step_in m (Some x) = record { op = op_view x.op; refs = x.refs.items; was = was_of (at_place m.kept.items x.kept); written = x.written }

abbrev pub plan_in : KeptMap → Shift → List (Step Given) → Plan
plan_in m shift steps = record { size = m.extent; source = change_in m shift; step = λ k. step_in m (slice_get steps k) }

-- the steps are those of the statements that are defined after an edit
pub record IsUnder (m : KeptMap) (e : WholeEdit) (t : WholeState) (shift : Shift) (sources names : List Name) (steps : List (Step Given)) : Type 0 where
  pub plan : IsPlanFor (touch_of e) (names_in m) t.names (plan_in m shift steps) sources names
  pub whole : names ≡ whole_names (nodes_of t.names.entries) (by_depth (nodes_of t.names.entries))
  pub count : length steps ≡ length names
  pub ranges : (k : ℕ) (x : Step Given) → slice_get steps k ≡ Some x → HasRanges (op_view x.op)
  pub depths : (k : ℕ) (n : Name) (x : Step Given) → slice_get names k ≡ Some n → slice_get steps k ≡ Some x → x.depth ≡ depth_in (nodes_of t.names.entries) n
  pub kept : (k : ℕ) (n : Name) (x : Step Given) → slice_get names k ≡ Some n → slice_get steps k ≡ Some x → x.kept ≡ position (bytes_eq n) m.planned.names.keys

-- ---- what is made

abbrev pub AreMadeOf : KeptMap → Shift → List (Step Given) → List (Option (Made Beside)) → Type 0
AreMadeOf m shift steps made = (k : ℕ) (x : Step Given) (r : Option (Made Beside)) → slice_get steps k ≡ Some x → slice_get made k ≡ Some r
    → IsPrepared suits (plan_in m shift steps) k (at_place m.kept.items x.kept) r

abbrev pub counts_view : told.Counts → Counts
counts_view c = record { changed = c.changed; evaluated = c.evaluated; worked = c.worked }

-- the statements are repaired, and none has a fault
pub record IsPreparedFor (m : KeptMap) (e : WholeEdit) (t : WholeState) (shift : Shift) (sources names : List Name) (steps : List (Step Given)) (prepared : Prepared) : Type 0 where
  pub faultless : fault_after e t ≡ None
  pub under : IsUnder m e t shift sources names steps
  pub count : length prepared.made.items ≡ length steps
  pub made : AreMadeOf m shift steps prepared.made.items
  pub counts : counts_view prepared.counts ≡ counts_to_place (plan_in m shift steps) (length steps)

-- ---- what is read

-- tiles of the edit's own source that it damages
abbrev pub own_damage : KeptMap → WholeEdit → WholeState → ℕ
own_damage m e t = (counts_of_touched (touch_of e) (names_in m) t.names).evaluated

-- at most the looks that are left of what the edit may read, after those for its own source
pub record RisesByRest (m : KeptMap) (e : WholeEdit) (t : WholeState) (before after : TallyState) : Type 0 where
  pub own : 64 * own_damage m e t ≤ (edit_reads (seen m) e).looks
  pub rest : RisesBy ((edit_reads (seen m) e).looks - 64 * own_damage m e t) (edit_reads (seen m) e).picks before after
