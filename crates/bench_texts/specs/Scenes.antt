-- What a plan can be made of.
use Rattle.std.specs.Prelude.{◌≡◌, ℕ, false, List, map, Some, is_some, bytes_eq}
use Rattle.std.specs.List.{list_any}
use Rattle.std.specs.Map.{lookup}
use Rattle.map_defs.specs.Ops.{Name, layer_term}
use Rattle.map_defs.specs.Nodes.{find_node}
use Rattle.map_edits.specs.Laws.{HasNoCycle}
use Rattle.statement_graph.specs.Groups.{Group, nodes_in, has_group}
use Rattle.statement_parser.specs.Views.{op_view}
use Rattle.statement_parser.specs.declared.op.Op.{Op}
use Rattle.edit_plans.specs.Planned.{FlatDef, is_source_node, AreNamedApart, AreFlats}

-- flat statements that stood before
abbrev pub flats_of : List (List ℕ × Op) → List (List ℕ × FlatDef)
flats_of ops = map (λ e. (e.0, record { op = e.1; written = false })) ops

-- the sources and the operations are those of a graph without a cycle, whose groups have one node each
pub record IsFine (groups : List Group) (sources : List Name) (ops : List (List ℕ × Op)) : Type 0 where
  pub acyclic : HasNoCycle (nodes_in groups)
  pub apart : AreNamedApart (nodes_in groups)
  pub named : (n : Name) → has_group groups n ≡ is_some (find_node (nodes_in groups) n)
  pub sources_are : (n : Name) → list_any (bytes_eq n) sources ≡ is_source_node (find_node (nodes_in groups) n)
  pub flats_are : AreFlats (nodes_in groups) (flats_of ops)

-- these layers' sum stands under the name, and all others stay
pub record HasSum (old new : List (List ℕ × Op)) (name : Name) (reads : List Name) : Type 0 where
  pub op : Op
  pub is : lookup (bytes_eq name) new ≡ Some op
  pub terms : (op_view op).terms ≡ map (λ n. layer_term n) reads
  pub others : (n : Name) → bytes_eq name n ≡ false → lookup (bytes_eq n) new ≡ lookup (bytes_eq n) old
