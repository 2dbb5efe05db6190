use Rattle.std.proofs.Common.{◌≡◌, take}
use Rattle.procedure_expand.specs.Flats.{flats_view}
use Rattle.statement_graph.specs.Puts.{flat_nodes}
use Rattle.kept_map.specs.Groups.{statement_nodes}
use Rattle.live_engine.proofs.statement_graphs.nodes_of.Given as goal

-- the nodes of the flat statements so far
abbrev pub invariant-loop-flat : goal.invariant-loop-flat
invariant-loop-flat l = flat_nodes l.nodes.items ≡ statement_nodes (flats_view (take l.flat-index l.flats))
