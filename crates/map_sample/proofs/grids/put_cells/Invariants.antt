use Rattle.std.proofs.Common.{◌≡◌, ℕ, ◌+◌, ◌<◌, length}
use Rattle.map_nums.specs.Grids.{cell_at}
use Rattle.map_sample.proofs.grids.put_cells.Given as goal

abbrev pub invariant-loop-c : goal.invariant-loop-c
invariant-loop-c g l = record {
  room : length l.cells ≡ 32;
  made : (k : ℕ) → k < l.c → goal.F-post g l.cell (l.left + k + 1) (cell_at l.cells k);
}
