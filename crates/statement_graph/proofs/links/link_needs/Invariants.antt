use Rattle.std.proofs.Common.{◌≡◌, length, take}
use Rattle.statement_graph.specs.Seats.{nodes_at}
use Rattle.statement_graph.specs.Links.{all_needs, IsLinkedFrom}
use Rattle.statement_graph.proofs.links.link_needs.Given as goal

abbrev pub invariant-loop-at : goal.invariant-loop-at
invariant-loop-at l = record {
  starts : l.start ≡ length (all_needs (take l.at (nodes_at l.entries)));
  linked : IsLinkedFrom (nodes_at l.entries) 0 (all_needs (take l.at (nodes_at l.entries))) l.links;
}
