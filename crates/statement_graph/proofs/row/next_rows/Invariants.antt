use Rattle.std.proofs.Common.{◌≡◌, ℕ, suc, map, length, take}
use Rattle.map_defs.specs.Nodes.{Node}
use Rattle.statement_graph.specs.Seats.{nodes_at}
use Rattle.statement_graph.specs.Links.{all_needs}
use Rattle.statement_graph.specs.Tables.{shown_all, shown_at, table_at}
use Rattle.statement_graph.proofs.row.next_rows.Given as goal

abbrev pub invariant-loop-at : goal.invariant-loop-at
invariant-loop-at l = record {
  starts : l.start ≡ length (all_needs (take l.at (nodes_at l.entries)));
  table : (k : ℕ) → shown_all (nodes_at l.entries) l.rows ≡ table_at k (nodes_at l.entries) l.name
      → shown_all (nodes_at l.entries) (take l.at l.next) ≡ map (λ (node : Node). shown_at (suc k) (nodes_at l.entries) l.name node.name) (take l.at (nodes_at l.entries));
}
