use Rattle.std.proofs.Common.{◌≡◌}
use Rattle.statement_graph.specs.Seats.{nodes_at}
use Rattle.statement_graph.specs.Tables.{shown_all, table_at}
use Rattle.statement_graph.proofs.row.settle.Given as goal

abbrev pub invariant-loop-round : goal.invariant-loop-round
invariant-loop-round l = shown_all (nodes_at l.entries) l.rows ≡ table_at l._round (nodes_at l.entries) l.name
