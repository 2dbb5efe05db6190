use Rattle.std.proofs.Common.{◌+◌, ◌≤◌, ◌++◌, ◌∷◌, [], take}
use Rattle.cell_kinds.specs.Expanded.{expanded, AreRuns}
use Rattle.cell_kinds.proofs.kinds.add_cells.Given as goal

abbrev pub invariant-loop-cell : goal.invariant-loop-cell
invariant-loop-cell l = record {
  runs : AreRuns (l.runs.items ++ l.run ∷ []) (expanded l.initial.runs.items ++ take (l.cell-index + 1) l.cells);
  few : l.run.count ≤ l.cell-index + 1;
}
