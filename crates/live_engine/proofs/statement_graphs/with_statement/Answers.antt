use Rattle.std.proofs.Common.{List, sym, subst}
use Rattle.map_defs.specs.Nodes.{Node}
use Rattle.statement_graph.specs.Groups.{Group}
use Rattle.statement_graph.specs.Puts.{FitsAs, flat_nodes}
use Rattle.kept_map.proofs.Given.{graph_with, graph_without}
use Rattle.live_engine.proofs.statement_graphs.with_statement.Goals as goal

pub put-requires : goal.put-requires
put-requires c =
    subst (λ (g : List Group). FitsAs g c.args.name.now (flat_nodes c.in_ok-nodes.nodes.items)) (sym c.in_ok-next.ensures)
    (subst (λ (ns : List Node). FitsAs c.args.graph.now c.args.name.now ns) (sym c.in_ok-nodes.ensures) c.requires)

pub returns-in-Ok : goal.returns-in-Ok
returns-in-Ok c = graph_with _ _ _ c.args.name.now _ _ c.in_ok-next.ensures c.in_ok-nodes.ensures c.in-Ok.ensures

pub returns-in-Err : goal.returns-in-Err
returns-in-Err c = graph_without _ _ _ c.args.name.now _ _ c.in-Err.refusal c.in_ok-next.ensures c.in_ok-nodes.ensures c.in-Err.ensures
