use Rattle.std.proofs.Common.{◌≡◌, ◌+◌, ◌<◌, ◌^◌, map, fold, take, slice_get, IfSome}
use Rattle.statement_graph.specs.Seats.{nodes_at}
use Rattle.statement_graph.specs.Tables.{shown, shown_all, joined, unjoined, seen}
use Rattle.statement_graph.proofs.row.gathered.Given as goal

abbrev pub invariant-loop-k : goal.invariant-loop-k
invariant-loop-k l =
    (IfSome (slice_get (nodes_at l.entries) l.at) (λ node. shown (nodes_at l.entries) l.row ≡ fold joined (unjoined l.name node) (map (seen (nodes_at l.entries) (shown_all (nodes_at l.entries) l.rows) l.name) (take l.k l.needs))))
    × (l.row.depth + 1 < 2 ^ 32)
