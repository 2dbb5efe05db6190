use Rattle.std.proofs.Common.{◌≡◌, take}
use Rattle.statement_graph.specs.Seats.{seats}
use Rattle.statement_graph.proofs.places.copy_entries.Given as goal

abbrev pub invariant-loop-entry : goal.invariant-loop-entry
invariant-loop-entry l = seats l.copies.items ≡ seats (take l.entry-index l.entries)
