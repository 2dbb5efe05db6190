-- Laws of the steps that are planned.
use Rattle.std.specs.Prelude.{◌≡◌, ℕ, ◌+◌, ◌≤◌, List, length, position, Some, slice_get, bytes_eq}
use Rattle.std.specs.Map.{lookup}
use Rattle.map_defs.specs.Ops.{Name, Op}
use Rattle.map_defs.specs.Nodes.{Node}
use Rattle.map_edits.specs.LayerDefs.{by_op, layers, find_making, nodes_of}
use Rattle.map_edits.specs.EngineStates.{EngineState}
use Rattle.map_edits.specs.WholeStates.{cells_of}
use Rattle.map_edits.specs.Touches.{Touch, is_whole}
use Rattle.map_edits.specs.Laws.{HasNoCycle}
use Rattle.statement_parser.specs.Views.{op_view}
use Rattle.statement_parser.specs.declared.op.Op.{Op as Given}
use Rattle.map_waves.specs.Keeping.{was_of}
use Rattle.map_waves.specs.Bases.{source_in, new_sources, kept_by, plan_of, ArePlanned}
use Rattle.map_waves.specs.declared.plans.Step.{Step}
use Rattle.map_waves.specs.declared.plans.Base.{Base}
use Rattle.edit_plans.specs.PlansFor.{IsChangeOf, IsPlanFor}
use Rattle.edit_plans.specs.Planned.{FlatDef, IsPlanned}

-- what steps are planned from, seen by the states before and after
pub record IsPlannedFrom {B : Type 0} (touch : Touch) (s t : EngineState) (base : Base B) (sources : List Name) (flats : List (List ℕ × FlatDef)) (old : List Name) : Type 0 where
  pub size : base.extent ≡ t.size
  pub statements : (n : Name) (f : FlatDef) → lookup (bytes_eq n) flats ≡ Some f → find_making (layers t.entries) n ≡ Some (by_op (op_view f.op))
  pub written : (n : Name) (f : FlatDef) → lookup (bytes_eq n) flats ≡ Some f → f.written ≡ is_whole t.entries touch n
  pub sources_are : (i : ℕ) (n : Name) → slice_get sources i ≡ Some n → IsChangeOf s t n (source_in base i)
  pub kept : (n : Name) (f : FlatDef) → lookup (bytes_eq n) flats ≡ Some f → was_of (kept_by base (position (bytes_eq n) old)) ≡ cells_of s n

-- they are the plan that the edit makes
abbrev pub PlannedIsPlan : Type 0 → Type 0
PlannedIsPlan B = (touch : Touch) (s t : EngineState) (base : Base B) (sources : List Name) (flats : List (List ℕ × FlatDef)) (old names : List Name) (steps : List (Step Given)) → HasNoCycle (nodes_of t.entries)
    → IsPlannedFrom touch s t base sources flats old → IsPlanned (nodes_of t.entries) sources flats old names steps → IsPlanFor touch s t (plan_of op_view base steps) sources names

-- there are as many sources and kept statements as names of them
pub record IsCounted {B : Type 0} (base : Base B) (sources old : List Name) : Type 0 where
  pub sources_are : length sources ≡ length base.sources.now + new_sources base.shift
  pub kept : length old ≡ length base.kept.now

-- what the operations are like that may be planned
abbrev pub AreFormed : (Op → Type 0) → List (List ℕ × FlatDef) → Type 0
AreFormed formed flats = (n : Name) (f : FlatDef) → lookup (bytes_eq n) flats ≡ Some f → formed (op_view f.op) × (length (op_view f.op).terms ≤ 8)

-- and the operands of each stand before the first of its depth
abbrev pub PlannedIsInOrder : Type 0 → (Op → Type 0) → Type 0
PlannedIsInOrder B formed = (touch : Touch) (s t : EngineState) (base : Base B) (sources : List Name) (flats : List (List ℕ × FlatDef)) (old names : List Name) (steps : List (Step Given))
    → HasNoCycle (nodes_of t.entries) → IsPlannedFrom touch s t base sources flats old → IsCounted base sources old → AreFormed formed flats → IsPlanned (nodes_of t.entries) sources flats old names steps → ArePlanned op_view (λ o. formed (op_view o)) base steps

-- the depths rise from statement to statement
abbrev pub DepthsRise : Type 0
DepthsRise = (nodes : List Node) (sources : List Name) (flats : List (List ℕ × FlatDef)) (old names : List Name) (steps : List (Step Given)) (j k : ℕ) (x y : Step Given) → IsPlanned nodes sources flats old names steps → j ≤ k
    → slice_get steps j ≡ Some x → slice_get steps k ≡ Some y → x.depth ≤ y.depth
