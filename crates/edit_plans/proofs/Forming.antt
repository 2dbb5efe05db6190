-- Steps that are planned are the plan that an edit makes.
use Rattle.std.proofs.Common.{◌≡◌, ℕ, ◌<◌, not, List, [], ◌∷◌, map, length, get_or, Option, Some, is_some, slice_get, sym, ap, subst, ◌∙◌, arith}
use Rattle.std.proofs.lemmas.Option.{slice_get_within, slice_get-get_or}
use Rattle.std.proofs.lemmas.List.Elements.{filter_agree}
use Rattle.map_defs.specs.Ops.{Name}
use Rattle.map_defs.specs.Nodes.{Node, lacks}
use Rattle.map_defs.specs.Depths.{by_depth}
use Rattle.map_edits.specs.LayerDefs.{by_op, nodes_of}
use Rattle.map_edits.specs.EngineStates.{EngineState, value_of}
use Rattle.map_edits.specs.Touches.{Touch}
use Rattle.map_edits.specs.Laws.{HasNoCycle}
use Rattle.map_edits.proofs.Defined.{value_is_defined}
use Rattle.statement_parser.specs.Views.{op_view}
use Rattle.statement_parser.specs.declared.op.Op.{Op as Given}
use Rattle.map_waves.specs.Keeping.{was_of}
use Rattle.map_waves.specs.Bases.{kept_by, step_by, plan_of}
use Rattle.map_waves.specs.declared.plans.Step.{Step}
use Rattle.map_waves.specs.declared.plans.Base.{Base}
use Rattle.edit_plans.specs.PlansFor.{IsStepFor, IsPlanFor, defined_names}
use Rattle.edit_plans.specs.Planned.{FlatDef, IsPlanned}
use Rattle.edit_plans.specs.PlannedLaws.{IsPlannedFrom, PlannedIsPlan}

-- a step at a place where one is
pub step_at : {X : Type 0} (names : List Name) (steps : List X) → length steps ≡ length names → (k : ℕ) (n : Name) → slice_get names k ≡ Some n → (x : X) × (slice_get steps k ≡ Some x)
step_at names steps count k n at = go steps (let within = slice_get_within names k n at in omega (arith, count))
  where
    go : {X : Type 0} (steps : List X) → {j : ℕ} → j < length steps → (x : X) × (slice_get steps j ≡ Some x)
    go [] h = absurd (omega arith)
    go (x ∷ xs) {j} h = (get_or (x ∷ xs) j x, slice_get-get_or (x ∷ xs) j x h)

module _ {B : Type 0} (touch : Touch) (s t : EngineState) (base : Base B) (sources : List Name) (flats : List (List ℕ × FlatDef)) (old names : List Name) (steps : List (Step Given)) (none : HasNoCycle (nodes_of t.entries))
    (made : IsPlannedFrom touch s t base sources flats old) (planned : IsPlanned (nodes_of t.entries) sources flats old names steps) where
  names_defined : names ≡ defined_names t
  names_defined =
      planned.names_are
      ∙ ap (map (λ (node : Node). node.name)) (filter_agree (λ (node : Node). not (is_some (lacks (nodes_of t.entries) node.name))) (λ (node : Node). is_some (value_of t node.name)) (λ node. sym (value_is_defined t none node.name)) (by_depth (nodes_of t.entries)))

  step_for : (k : ℕ) (n : Name) → slice_get names k ≡ Some n → IsStepFor touch s t (step_by op_view base (slice_get steps k)) sources names k n
  step_for k n at =
      let r = step_at names steps planned.count k n at in
      let x = r.0 in
      let step = planned.each k n x at r.1 in
      subst (λ (o : Option (Step Given)). IsStepFor touch s t (step_by op_view base o) sources names k n) (sym r.1) (record {
        making = made.statements n step.flat step.from ∙ ap (λ o. Some (by_op o)) (sym step.op);
        refs = step.refs;
        was = ap (λ o. was_of (kept_by base o)) step.kept ∙ made.kept n step.flat step.from;
        written = step.written ∙ made.written n step.flat step.from;
      })

  pub is_plan : IsPlanFor touch s t (plan_of op_view base steps) sources names
  is_plan = record { size = made.size; names_are = names_defined; sources_are = made.sources_are; steps = step_for }

pub planned_is_plan : {B : Type 0} → PlannedIsPlan B
planned_is_plan {B} touch s t base sources flats old names steps none made planned = is_plan touch s t base sources flats old names steps none made planned
