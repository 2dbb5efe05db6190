use Rattle.std.proofs.Common.{◌≡◌, take}
use Rattle.statement_graph.proofs.row.are_same.Given as goal

abbrev pub invariant-loop-at : goal.invariant-loop-at
invariant-loop-at l = take l.at l.next ≡ take l.at l.rows
