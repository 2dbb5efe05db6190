-- The flat statements that lack no name.
use Rattle.std.specs.Prelude.{Bool, true, not, List, filter, is_some}
use Rattle.map_defs.specs.Nodes.{Node, lacks}
use Rattle.map_defs.specs.Depths.{by_depth}
use Rattle.statement_graph.specs.declared.ordering.Wanted.{Wanted}
use Rattle.statement_graph.specs.declared.ordering.Wanted.TheVariants.{All, Whole}

-- by depth, then in order of place
abbrev pub whole_nodes : List Node → List Node
whole_nodes nodes = filter (λ (node : Node). not (is_some (lacks nodes node.name))) (by_depth nodes)

-- whether one is wanted that lacks a name, or none
abbrev pub takes : Wanted → Bool → Bool
takes All lacking = true
takes Whole lacking = not lacking

abbrev pub is_taken : Wanted → List Node → Node → Bool
is_taken wanted nodes node = takes wanted (is_some (lacks nodes node.name))
