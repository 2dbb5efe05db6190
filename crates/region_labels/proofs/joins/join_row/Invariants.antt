use Rattle.std.proofs.Common.{ℕ, ◌+◌, ◌*◌, ◌<◌}
use Rattle.region_labels.specs.Provisional.{IsJoinStep, IsTiedAbove}
use Rattle.region_labels.proofs.joins.join_row.Given as goal

abbrev pub invariant-loop-column : goal.invariant-loop-column
invariant-loop-column l = record {
  step : IsJoinStep l.extent l.cells l.fn.labels l.labels;
  tied : (k : ℕ) → k < l.column → IsTiedAbove l.extent l.cells (l.row * l.extent.columns + k) l.labels;
}
