-- The places of a graph one after the other, as the code holds them, and the groups that they are.
use Rattle.std.specs.Prelude.{ℕ, suc, Bool, true, false, not, ◌&&◌, List, [], ◌∷◌, ◌++◌, map, Option, Some, None, bytes_eq, if◌then◌else◌}
use Rattle.map_defs.specs.Ops.{Name}
use Rattle.map_defs.specs.Nodes.{Node}
use Rattle.statement_graph.specs.declared.node.Entry.{Entry}
use Rattle.statement_graph.specs.declared.node.Entry.TheVariants.{Source, Inner, Own}
use Rattle.statement_graph.specs.Groups.{Group, has_group}
use Rattle.statement_graph.specs.Puts.{flat_node, source_node}

-- a node, and whether its group ends with it
pub record Seat : Type 0 where
  pub node : Node
  pub ends : Bool

abbrev pub seat_of : Entry → Seat
seat_of (Source n) = record { node = source_node n; ends = true }
seat_of (Inner g) = record { node = flat_node g; ends = false }
seat_of (Own g) = record { node = flat_node g; ends = true }

abbrev pub node_at : Entry → Node
node_at e = (seat_of e).node

abbrev pub name_at : Entry → Name
name_at e = (node_at e).name

abbrev pub seats : List Entry → List Seat
seats es = map seat_of es

abbrev pub nodes_at : List Entry → List Node
nodes_at es = map node_at es

-- the groups, after the nodes of one that is under way
abbrev pub groups_from : List Node → List Seat → List Group
groups_from now [] = []
groups_from now (s ∷ ss) = if s.ends then record { name = s.node.name; nodes = now ++ s.node ∷ [] } ∷ groups_from [] ss else groups_from (now ++ s.node ∷ []) ss

abbrev pub groups_of : List Entry → List Group
groups_of es = groups_from [] (seats es)

-- no group is left under way
abbrev pub are_whole : Bool → List Seat → Bool
are_whole under_way [] = not under_way
are_whole under_way (s ∷ ss) = are_whole (not s.ends) ss

-- where the group with this name starts and ends; start is where the group under way does
abbrev pub span_from : ℕ → ℕ → Name → List Seat → Option (ℕ × ℕ)
span_from start at n [] = None
span_from start at n (s ∷ ss) = if s.ends then (if bytes_eq s.node.name n then Some (start, suc at) else span_from (suc at) (suc at) n ss) else span_from start (suc at) n ss

-- no two have one name
abbrev pub are_apart : List Group → Bool
are_apart [] = true
are_apart (g ∷ gs) = not (has_group gs g.name) && are_apart gs
