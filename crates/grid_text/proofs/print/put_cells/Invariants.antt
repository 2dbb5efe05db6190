use Rattle.std.proofs.Common.{◌≡◌, ◌++◌, take}
use Rattle.grid_text.specs.Blanks.{blanked}
use Rattle.grid_text.proofs.print.put_cells.Given as goal

abbrev pub invariant-loop-cell : goal.invariant-loop-cell
invariant-loop-cell l = l.text.items ≡ l.initial.text.items ++ blanked (take l.cell-index l.cells)
