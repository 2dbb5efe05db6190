use Rattle.region_labels.specs.Provisional.{IsJoinStep}
use Rattle.region_labels.proofs.joins.shorten_row.Given as goal

abbrev pub invariant-loop-at : goal.invariant-loop-at
invariant-loop-at l = IsJoinStep l.extent l.cells l.fn.labels l.labels
