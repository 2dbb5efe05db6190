use Rattle.std.proofs.Common.{◌∙◌, ap, slice_get}
use Rattle.map_defs.specs.Depths.{by_depth}
use Rattle.statement_graph.specs.Seats.{nodes_at}
use Rattle.statement_graph.proofs.Placing.{seen_nodes}
use Rattle.statement_graph.proofs.graph.Graph.node.Goals as goal

pub returns : goal.returns
returns c =
    let g = c.self.inside in
    c.nth_flat.ensures ∙ ap (λ es. slice_get (by_depth (nodes_at es)) c.args.k) c.as_slice.ensures.value
    ∙ ap (λ ns. slice_get (by_depth ns) c.args.k) (seen_nodes g.entries.items g.rows.items g.spare.items c.args.self.now c.self.invariant.kept c.self.view_is)
