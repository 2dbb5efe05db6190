use Rattle.std.proofs.Common.{ℕ, ◌<◌, get_or, None}
use Rattle.layer_tiles.specs.Cells.{IsCell}
use Rattle.layer_tiles.proofs.cells.are_cells.Given as goal

abbrev pub invariant-loop-cell : goal.invariant-loop-cell
invariant-loop-cell l = (k : ℕ) → k < l.cell-index → IsCell (get_or l.cells k None)
