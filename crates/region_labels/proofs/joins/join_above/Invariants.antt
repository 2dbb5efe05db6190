use Rattle.std.proofs.Common.{◌≡◌, ℕ, ◌+◌, ◌*◌, ◌<◌}
use Rattle.map_nums.specs.Grids.{row_of, column_of}
use Rattle.region_labels.specs.Provisional.{IsJoinStep, IsTiedTo}
use Rattle.region_labels.proofs.joins.join_above.Given as goal

abbrev pub invariant-loop-c : goal.invariant-loop-c
invariant-loop-c l = record {
  step : IsJoinStep l.extent l.cells l.fn.labels l.labels;
  tied : (i : ℕ) → row_of l.extent i + 1 ≡ l.row → column_of l.extent i < l.c → IsTiedTo l.extent l.cells (l.row * l.extent.columns + l.column) l.labels i;
}
