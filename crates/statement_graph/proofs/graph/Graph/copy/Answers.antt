use Rattle.std.proofs.Common.{◌≡◌, ◌∙◌, ap}
use Rattle.statement_graph.specs.Seats.{seats, nodes_at}
use Rattle.statement_graph.proofs.Placing.{copied, same_nodes}
use Rattle.statement_graph.proofs.Linking.{room_copied}
use Rattle.statement_graph.proofs.graph.Graph.copy.Goals as goal

pub invariant_of-result : goal.invariant_of-result
invariant_of-result c =
    let g = c.self.inside in
    let room = c.self.invariant.room in
    let nodes : nodes_at c.in_ok-entries.entries.items ≡ nodes_at g.entries.items = same_nodes g.entries.items c.in_ok-entries.entries.items (c.in_ok-entries.ensures ∙ ap seats c.as_slice.ensures.value) in
    record {
      kept = copied g.entries.items c.in_ok-entries.entries.items g.rows.items c.in_ok-rows.rows.items g.spare.items c.in_ok-spare.spare.items c.self.invariant.kept
          (c.in_ok-entries.ensures ∙ ap seats c.as_slice.ensures.value) (c.in_ok-rows.ensures.items ∙ c.as_slice-2.ensures.value) (c.in_ok-spare.ensures.items ∙ c.as_slice-3.ensures.value);
      room = room_copied (nodes_at g.entries.items) (nodes_at c.in_ok-entries.entries.items) g.links.firsts.items c.in_ok-links.links.firsts.items g.links.needs.items c.in_ok-links.links.needs.items room nodes c.in_ok-links.ensures.firsts c.in_ok-links.ensures.needs;
    }
