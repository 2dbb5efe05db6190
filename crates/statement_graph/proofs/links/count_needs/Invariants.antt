use Rattle.std.proofs.Common.{◌≡◌, ◌+◌, length, take}
use Rattle.statement_graph.specs.Seats.{nodes_at}
use Rattle.statement_graph.specs.Links.{all_needs}
use Rattle.statement_graph.proofs.links.count_needs.Given as goal

abbrev pub invariant-loop-at : goal.invariant-loop-at
invariant-loop-at l = l.count ≡ l.before + length (all_needs (take l.at (nodes_at l.entries)))
