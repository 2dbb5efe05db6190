use Rattle.std.proofs.Common.{◌≡◌, ◌++◌, List, filter, drop, slice_get}
use Rattle.map_defs.specs.Nodes.{Node}
use Rattle.statement_graph.specs.Seats.{nodes_at}
use Rattle.statement_graph.specs.Walks.{at_depth, is_at_depth}
use Rattle.statement_graph.proofs.row.nth_at_depth.Given as goal

abbrev pub invariant-loop-at : goal.invariant-loop-at
invariant-loop-at l =
    (rest : List Node) → slice_get (at_depth (nodes_at l.entries) l.depth ++ rest) l.place ≡ slice_get (filter (is_at_depth (nodes_at l.entries) l.depth) (drop l.at (nodes_at l.entries)) ++ rest) l.left
