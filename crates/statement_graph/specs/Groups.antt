-- The names of a graph in order of place: sources, and statements with their flat statements.
use Rattle.std.specs.Prelude.{ℕ, Bool, not, List, [], ◌∷◌, filter, flat_map, bytes_eq, if◌then◌else◌}
use Rattle.std.specs.List.{list_any}
use Rattle.map_defs.specs.Ops.{Name}
use Rattle.map_defs.specs.Nodes.{Node}

-- the group of a source is one node without needs, that of a statement its flat statements, its own the last
pub record Group : Type 0 where
  pub name : List ℕ
  pub nodes : List Node

-- the sources and the flat statements, in order of place
abbrev pub nodes_in : List Group → List Node
nodes_in groups = flat_map (λ (g : Group). g.nodes) groups

abbrev pub has_group : List Group → Name → Bool
has_group groups n = list_any (λ (g : Group). bytes_eq g.name n) groups

-- the groups with this one: in its place where the name is there, else at the end
abbrev pub put_group : List Group → Name → List Node → List Group
put_group [] n nodes = record { name = n; nodes = nodes } ∷ []
put_group (g ∷ gs) n nodes = if bytes_eq g.name n then record g { nodes = nodes } ∷ gs else g ∷ put_group gs n nodes

abbrev pub drop_group : List Group → Name → List Group
drop_group groups n = filter (λ (g : Group). not (bytes_eq g.name n)) groups
