use Rattle.region_labels.specs.Provisional.{IsJoinStep}
use Rattle.region_labels.proofs.joins.shorten_ways.Given as goal

abbrev pub invariant-loop-band : goal.invariant-loop-band
invariant-loop-band l = IsJoinStep l.extent l.cells l.fn.labels l.labels
