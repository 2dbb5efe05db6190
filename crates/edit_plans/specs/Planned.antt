-- The steps of the statements that are defined, by their names.
use Rattle.std.specs.Prelude.{◌≡◌, ℕ, Bool, false, not, List, [], ◌∷◌, ◌++◌, map, filter, length, position, Option, Some, None, is_some, option_map, slice_get, bytes_eq, IsTrue, ◌≤◌}
use Rattle.std.specs.Map.{lookup}
use Rattle.std.specs.Option.{option_or}
use Rattle.map_nums.specs.Numbers.{is_value}
use Rattle.map_defs.specs.Ops.{Name, Term, layer_term, number_term, Op, needs_of}
use Rattle.map_defs.specs.Nodes.{Node, find_node, lacks}
use Rattle.map_defs.specs.Depths.{depth_in, by_depth}
use Rattle.map_defs.specs.FlatNames.{AreApart}
use Rattle.statement_parser.specs.Views.{op_view}
use Rattle.statement_parser.specs.declared.op.Op.{Op as Given}
use Rattle.map_waves.specs.declared.plans.Ref.{Ref}
use Rattle.map_waves.specs.declared.plans.Ref.TheVariants.{Source, Statement, Number}
use Rattle.map_waves.specs.declared.plans.Step.{Step}
use Rattle.edit_plans.specs.PlansFor.{AreRefsFor}
use Rattle.edit_plans.specs.declared.planning.SourceNames.{SourceNames}

-- ---- names by place

abbrev pub added_names : Option Name → List Name
added_names None = []
added_names (Some n) = n ∷ []

abbrev pub source_names : SourceNames → List Name
source_names sources = sources.held.now.keys ++ added_names (option_map (λ n. n.now) sources.added)

-- what a name is to the statements that come after: a source, or a statement before them
abbrev pub place_for : List Name → List Name → Name → Option Ref
place_for sources names n = option_or (option_map (λ i. Source i) (position (bytes_eq n) sources)) (option_map (λ j. Statement j) (position (bytes_eq n) names))

abbrev pub ref_for : List Name → List Name → Term → Option Ref
ref_for sources names (layer_term n) = place_for sources names n
ref_for sources names (number_term z) = Some (Number (Some z))

-- the depth of an operand
abbrev pub ref_depth : List (Step Given) → Ref → ℕ
ref_depth steps (Source i) = 0
ref_depth steps (Statement j) = of_step (slice_get steps j)
  where
    of_step : Option (Step Given) → ℕ
    of_step None = 0
    of_step (Some x) = x.depth
ref_depth steps (Number c) = 0

-- ---- what is planned

-- a number that a cell may hold
abbrev pub HasValue : Term → Type 0
HasValue (layer_term n) = Unit {0}
HasValue (number_term z) = IsTrue (is_value z)

-- at most eight terms, and such numbers
pub record HasOperands (op : Op) : Type 0 where
  pub few : length op.terms ≤ 8
  pub values : (k : ℕ) (u : Term) → slice_get op.terms k ≡ Some u → HasValue u

-- no name stands twice
abbrev pub AreNamedApart : List Node → Type 0
AreNamedApart nodes = AreApart (map (λ (node : Node). node.name) nodes)

abbrev pub is_source_node : Option Node → Bool
is_source_node None = false
is_source_node (Some node) = not (is_some node.needs)

-- of the names that are there, these are the sources; one that is dropped may stand among them
abbrev pub AreSources : List Node → List Name → Type 0
AreSources nodes sources = (n : Name) (node : Node) → find_node nodes n ≡ Some node → is_some (position (bytes_eq n) sources) ≡ is_source_node (Some node)

-- a flat statement that may come into a plan, and whether the edit wrote it
pub record FlatDef : Type 0 where
  pub op : Given
  pub written : Bool

-- a flat statement of a node
pub record IsFlatOf (flats : List (List ℕ × FlatDef)) (n : Name) (ns : List Name) : Type 0 where
  pub flat : FlatDef
  pub found : lookup (bytes_eq n) flats ≡ Some flat
  pub needs : needs_of (op_view flat.op) ≡ ns
  pub operands : HasOperands (op_view flat.op)

-- each flat statement of the nodes is there
abbrev pub AreFlats : List Node → List (List ℕ × FlatDef) → Type 0
AreFlats nodes flats = (n : Name) (ns : List Name) → find_node nodes n ≡ Some (record { name = n; needs = Some ns }) → IsFlatOf flats n ns

-- ---- the plan

-- the statements that lack no name
abbrev pub whole_names : List Node → List Node → List Name
whole_names nodes listed = map (λ (node : Node). node.name) (filter (λ (node : Node). not (is_some (lacks nodes node.name))) listed)

pub record IsPlannedStep (nodes : List Node) (sources : List Name) (flats : List (List ℕ × FlatDef)) (old names : List Name) (k : ℕ) (n : Name) (x : Step Given) : Type 0 where
  pub flat : FlatDef
  pub from : lookup (bytes_eq n) flats ≡ Some flat
  pub op : op_view x.op ≡ op_view flat.op
  pub written : x.written ≡ flat.written
  pub refs : AreRefsFor sources names k (op_view x.op).terms x.refs.items
  pub depth : x.depth ≡ depth_in nodes n
  pub kept : x.kept ≡ position (bytes_eq n) old

-- each statement that lacks no name, by depth, then in order of place
pub record IsPlanned (nodes : List Node) (sources : List Name) (flats : List (List ℕ × FlatDef)) (old names : List Name) (steps : List (Step Given)) : Type 0 where
  pub names_are : names ≡ whole_names nodes (by_depth nodes)
  pub count : length steps ≡ length names
  pub each : (k : ℕ) (n : Name) (x : Step Given) → slice_get names k ≡ Some n → slice_get steps k ≡ Some x → IsPlannedStep nodes sources flats old names k n x
