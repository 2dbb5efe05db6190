use Rattle.std.proofs.Common.{◌≡◌, drop}
use Rattle.statement_graph.specs.Seats.{seats, span_from}
use Rattle.statement_graph.proofs.places.span_of.Given as goal

abbrev pub invariant-loop-at : goal.invariant-loop-at
invariant-loop-at l = span_from l.start l.at l.name (drop l.at (seats l.entries)) ≡ span_from 0 0 l.name (seats l.entries)
