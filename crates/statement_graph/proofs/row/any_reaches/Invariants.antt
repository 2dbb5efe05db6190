use Rattle.std.proofs.Common.{◌≡◌, false, take}
use Rattle.std.specs.List.{list_any}
use Rattle.statement_graph.specs.Seats.{nodes_at}
use Rattle.statement_graph.specs.Tables.{shown_all, seen}
use Rattle.statement_graph.proofs.row.any_reaches.Given as goal

abbrev pub invariant-loop-need : goal.invariant-loop-need
invariant-loop-need l =
    list_any (λ m. (seen (nodes_at l.entries) (shown_all (nodes_at l.entries) l.rows) l.name m).reached) (take l.need-index l.needs) ≡ false
