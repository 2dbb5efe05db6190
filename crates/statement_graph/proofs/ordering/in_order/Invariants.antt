use Rattle.std.proofs.Common.{◌≡◌, ◌++◌, length}
use Rattle.statement_graph.specs.Seats.{nodes_at}
use Rattle.statement_graph.proofs.ByDepth.{listed, depths_left}
use Rattle.statement_graph.proofs.ordering.in_order.Given as goal

abbrev pub invariant-loop-above : goal.invariant-loop-above
invariant-loop-above l = listed l.found.items ++ depths_left l.wanted (nodes_at l.entries) (length l.entries) l.above ≡ depths_left l.wanted (nodes_at l.entries) (length l.entries) 0
