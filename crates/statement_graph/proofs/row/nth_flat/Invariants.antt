use Rattle.std.proofs.Common.{◌≡◌, ◌+◌, ◌-◌, flat_map, length, slice_get}
use Rattle.std.specs.List.{range_with_len}
use Rattle.statement_graph.specs.Seats.{nodes_at}
use Rattle.statement_graph.specs.Walks.{at_depth}
use Rattle.statement_graph.proofs.row.nth_flat.Given as goal

abbrev pub invariant-loop-above : goal.invariant-loop-above
invariant-loop-above l =
    slice_get (flat_map (at_depth (nodes_at l.entries)) (range_with_len 1 (length l.entries))) l.place
    ≡ slice_get (flat_map (at_depth (nodes_at l.entries)) (range_with_len (l.above + 1) (length l.entries - l.above))) l.left
