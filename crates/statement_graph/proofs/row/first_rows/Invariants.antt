use Rattle.std.proofs.Common.{◌≡◌, map, take}
use Rattle.map_defs.specs.Nodes.{Node}
use Rattle.statement_graph.specs.Seats.{nodes_at}
use Rattle.statement_graph.specs.Tables.{shown_all, shown_at}
use Rattle.statement_graph.proofs.row.first_rows.Given as goal

abbrev pub invariant-loop-at : goal.invariant-loop-at
invariant-loop-at l =
    shown_all (nodes_at l.entries) (take l.at l.rows) ≡ map (λ (node : Node). shown_at 0 (nodes_at l.entries) l.name node.name) (take l.at (nodes_at l.entries))
