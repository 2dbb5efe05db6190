use Rattle.std.proofs.Common.{◌≡◌, ◌++◌}
use Rattle.statement_graph.specs.Seats.{nodes_at}
use Rattle.statement_graph.specs.Walks.{is_at_depth}
use Rattle.statement_graph.specs.Wholes.{is_taken}
use Rattle.statement_graph.proofs.ByDepth.{listed, passing}
use Rattle.statement_graph.proofs.ordering.push_depth.Given as goal

abbrev pub invariant-loop-at : goal.invariant-loop-at
invariant-loop-at l =
    listed l.found.items ++ passing (is_taken l.wanted (nodes_at l.entries)) (is_at_depth (nodes_at l.entries) l.depth) (nodes_at l.entries) l.at
    ≡ listed l.initial.found.items ++ passing (is_taken l.wanted (nodes_at l.entries)) (is_at_depth (nodes_at l.entries) l.depth) (nodes_at l.entries) 0
