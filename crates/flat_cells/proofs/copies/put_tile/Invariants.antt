use Rattle.flat_cells.specs.Copies.{HasRows}
use Rattle.flat_cells.proofs.copies.put_tile.Given as goal

abbrev pub invariant-loop-r : goal.invariant-loop-r
invariant-loop-r g l = HasRows l.of.size l.of.cells l.tile l.r l.cells
