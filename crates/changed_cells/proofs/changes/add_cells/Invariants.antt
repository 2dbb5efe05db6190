use Rattle.changed_cells.specs.Changed.{AddsRowTo}
use Rattle.changed_cells.proofs.changes.add_cells.Given as goal

abbrev pub invariant-loop-c : goal.invariant-loop-c
invariant-loop-c l = AddsRowTo l.fn.extent l.tile l.r l.c l.before l.after l.initial.found.items l.found.items
