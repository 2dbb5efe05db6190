-- The plan that an edit makes, by the states before and after it.
use Rattle.std.specs.Prelude.{◌≡◌, ℕ, ◌<◌, List, [], ◌∷◌, map, filter, Option, Some, is_some, slice_get, ℤ, ⊤}
use Rattle.map_defs.specs.Ops.{Name, Term, layer_term, number_term}
use Rattle.map_defs.specs.Nodes.{Node}
use Rattle.map_defs.specs.Depths.{by_depth}
use Rattle.layer_tiles.specs.Changes.{ChangeState}
use Rattle.map_edits.specs.LayerDefs.{by_op, layers, find_making, nodes_of}
use Rattle.map_edits.specs.EngineStates.{EngineState, value_of}
use Rattle.map_edits.specs.WholeStates.{cells_of}
use Rattle.map_edits.specs.Touches.{Touch, is_whole}
use Rattle.map_waves.specs.Plans.{StepDef, Plan}
use Rattle.map_waves.specs.declared.plans.Ref.{Ref}
use Rattle.map_waves.specs.declared.plans.Ref.TheVariants.{Source, Statement, Number}

-- the flat statements that are defined, by depth, then in order of place
abbrev pub defined_names : EngineState → List Name
defined_names s = map (λ (node : Node). node.name) (filter (λ (node : Node). is_some (value_of s node.name)) (by_depth (nodes_of s.entries)))

-- the cells of a layer after where it is defined, and its cells before where it was
pub record IsChangeOf (s t : EngineState) (n : Name) (c : ChangeState) : Type 0 where
  pub after : (now : List (Option ℤ)) → cells_of t n ≡ Some now → c.cells ≡ now
  pub before : (was : List (Option ℤ)) → cells_of s n ≡ Some was → c.before ≡ Some was

-- an operand of statement k stands for a term
abbrev pub IsRefFor : List Name → List Name → ℕ → Term → Ref → Type 0
IsRefFor sources names k (layer_term n) (Source i) = slice_get sources i ≡ Some n
IsRefFor sources names k (layer_term n) (Statement j) = (slice_get names j ≡ Some n) × (j < k)
IsRefFor sources names k (layer_term n) (Number c) = ⊥
IsRefFor sources names k (number_term z) (Source i) = ⊥
IsRefFor sources names k (number_term z) (Statement j) = ⊥
IsRefFor sources names k (number_term z) (Number c) = c ≡ Some z

abbrev pub AreRefsFor : List Name → List Name → ℕ → List Term → List Ref → Type 0
AreRefsFor sources names k [] [] = ⊤
AreRefsFor sources names k [] (r ∷ rs) = ⊥
AreRefsFor sources names k (u ∷ us) [] = ⊥
AreRefsFor sources names k (u ∷ us) (r ∷ rs) = IsRefFor sources names k u r × AreRefsFor sources names k us rs

-- statement k is that of a name
pub record IsStepFor (touch : Touch) (s t : EngineState) (x : StepDef) (sources names : List Name) (k : ℕ) (n : Name) : Type 0 where
  pub making : find_making (layers t.entries) n ≡ Some (by_op x.op)
  pub refs : AreRefsFor sources names k x.op.terms x.refs
  pub was : x.was ≡ cells_of s n
  pub written : x.written ≡ is_whole t.entries touch n

-- the sources and the statements of a plan are of these names
pub record IsPlanFor (touch : Touch) (s t : EngineState) (p : Plan) (sources names : List Name) : Type 0 where
  pub size : p.size ≡ t.size
  pub names_are : names ≡ defined_names t
  pub sources_are : (i : ℕ) (n : Name) → slice_get sources i ≡ Some n → IsChangeOf s t n (p.source i)
  pub steps : (k : ℕ) (n : Name) → slice_get names k ≡ Some n → IsStepFor touch s t (p.step k) sources names k n
