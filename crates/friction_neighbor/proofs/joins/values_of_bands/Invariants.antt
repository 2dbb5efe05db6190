use Rattle.std.proofs.Common.{drop}
use Rattle.friction_neighbor.specs.Bands.{AreBandsOf}
use Rattle.friction_neighbor.specs.Joins.{AreReadyTo}
use Rattle.friction_neighbor.proofs.joins.values_of_bands.Given as goal

abbrev pub invariant-loop-k : goal.invariant-loop-k
invariant-loop-k l = record {
  left : AreBandsOf l.field.ground l.first (drop l.k l.bands) (drop l.k l.parts);
  ready : AreReadyTo l.field l.first l.values.items l.queue l.seen;
}
