-- The groups of a graph that goes with entries.
use Rattle.std.specs.Prelude.{◌≡◌, List, map, Result, Ok, Err, IsTrue, IsFalse, ⊤}
use Rattle.map_defs.specs.Ops.{Name}
use Rattle.map_defs.specs.Nodes.{Node}
use Rattle.map_defs.specs.Depths.{is_looped}
use Rattle.map_defs.specs.Statements.{Flat}
use Rattle.map_edits.specs.Entries.{Entry}
use Rattle.map_edits.specs.LayerDefs.{layers_of, flat_layer, node_of_layer}
use Rattle.statement_graph.specs.Groups.{Group, nodes_in, put_group}
use Rattle.statement_graph.specs.declared.refusal.GraphRefusal.{GraphRefusal}
use Rattle.statement_graph.specs.declared.refusal.GraphRefusal.TheVariants.{Cycle, NoMemory}

abbrev pub group_of : Entry → Group
group_of e = record { name = e.name; nodes = map node_of_layer (layers_of e) }

abbrev pub groups_of : List Entry → List Group
groups_of entries = map group_of entries

-- the nodes of a statement
abbrev pub statement_nodes : List Flat → List Node
statement_nodes flats = map node_of_layer (map flat_layer flats)

-- the graph with a statement, exactly where its name isn't reached from its own needs
abbrev pub IsGraphWith : List Group → Name → List Node → Result (List Group) GraphRefusal → Type 0
IsGraphWith old n nodes (Ok new) = (new ≡ put_group old n nodes) × IsFalse (is_looped (nodes_in (put_group old n nodes)) n)
IsGraphWith old n nodes (Err Cycle) = IsTrue (is_looped (nodes_in (put_group old n nodes)) n)
IsGraphWith old n nodes (Err NoMemory) = ⊤
