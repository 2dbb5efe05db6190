use Rattle.near_cells.specs.Added.{AreRows}
use Rattle.near_cells.proofs.near.NearCells.filled.Given as goal

abbrev pub invariant-loop-r : goal.invariant-loop-r
invariant-loop-r l = AreRows l.extent l.window.cells l.tile l.reach l.r l.cells.items
