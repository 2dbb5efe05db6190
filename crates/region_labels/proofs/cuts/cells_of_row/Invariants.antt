use Rattle.std.proofs.Common.{◌≡◌, ℕ, ◌<◌, length}
use Rattle.map_nums.specs.Grids.{cell_at}
use Rattle.region_labels.proofs.cuts.cells_of_row.Given as goal

abbrev pub invariant-loop-k : goal.invariant-loop-k
invariant-loop-k l = record {
  count : length l.cells ≡ 32;
  each : (j : ℕ) → j < l.k → cell_at l.cells j ≡ cell_at l.labels j;
}
