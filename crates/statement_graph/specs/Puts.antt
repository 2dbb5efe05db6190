-- What putting a statement asks, and what it answers.
use Rattle.std.specs.Prelude.{◌≡◌, ◌+◌, ◌^◌, ◌<◌, List, [], ◌∷◌, length, Option, Some, None, Result, Ok, Err, IsTrue, IsFalse, map}
use Rattle.map_defs.specs.Ops.{Name}
use Rattle.map_defs.specs.Nodes.{Node}
use Rattle.map_defs.specs.Depths.{is_looped}
use Rattle.statement_graph.specs.declared.node.Node.{Node as Given}
use Rattle.statement_graph.specs.declared.refusal.GraphRefusal.{GraphRefusal}
use Rattle.statement_graph.specs.declared.refusal.GraphRefusal.TheVariants.{Cycle, NoMemory}
use Rattle.statement_graph.specs.Groups.{Group, nodes_in, put_group}

abbrev pub flat_node : Given → Node
flat_node g = record { name = g.name; needs = Some g.needs.items }

abbrev pub flat_nodes : List Given → List Node
flat_nodes gs = map flat_node gs

abbrev pub source_node : Name → Node
source_node n = record { name = n; needs = None }

-- the name of the last
abbrev pub own_name : List Node → Option Name
own_name [] = None
own_name (node ∷ []) = Some node.name
own_name (node ∷ next ∷ nodes) = own_name (next ∷ nodes)

-- the last flat statement has the statement's name, and the graph would then have few enough
pub record FitsAs (old : List Group) (n : Name) (nodes : List Node) : Type 0 where
  pub own : own_name nodes ≡ Some n
  pub few : length (nodes_in (put_group old n nodes)) + 1 < 2 ^ 32

-- the graph with the statement exactly where its name isn't reached from its own needs; else the graph as before
abbrev pub IsPut : {V : Type 0} → List Group → List Group → Name → List Node → Result V GraphRefusal → Type 0
IsPut old new n nodes (Ok _) = (new ≡ put_group old n nodes) × IsFalse (is_looped (nodes_in (put_group old n nodes)) n)
IsPut old new n nodes (Err Cycle) = (new ≡ old) × IsTrue (is_looped (nodes_in (put_group old n nodes)) n)
IsPut old new n nodes (Err NoMemory) = new ≡ old
