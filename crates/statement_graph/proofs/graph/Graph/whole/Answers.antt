use Rattle.std.proofs.Common.{◌≡◌, ◌∙◌, ap}
use Rattle.std.proofs.lemmas.Result.{IfOk-weaker}
use Rattle.statement_graph.specs.Groups.{nodes_in}
use Rattle.statement_graph.specs.Seats.{nodes_at}
use Rattle.statement_graph.specs.Wholes.{whole_nodes}
use Rattle.statement_graph.proofs.Placing.{seen_nodes}
use Rattle.statement_graph.proofs.ByDepth.{listed}
use Rattle.statement_graph.proofs.graph.Graph.whole.Goals as goal

pub returns : goal.returns
returns c =
    let g = c.self.inside in
    IfOk-weaker c.in_order.result _ (λ v. listed v.items ≡ whole_nodes (nodes_in c.args.self.now))
    (λ v e. e ∙ ap (λ es. whole_nodes (nodes_at es)) c.as_slice.ensures.value
    ∙ ap whole_nodes (seen_nodes g.entries.items g.rows.items g.spare.items c.args.self.now c.self.invariant.kept c.self.view_is))
    c.in_order.ensures
