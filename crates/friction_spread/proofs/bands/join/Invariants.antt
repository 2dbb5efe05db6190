use Rattle.std.proofs.Common.{drop}
use Rattle.friction_spread.specs.Bands.{AreCostBands}
use Rattle.friction_spread.specs.Joins.{AreCostsTo}
use Rattle.friction_spread.proofs.bands.join.Given as goal

abbrev pub invariant-loop-band : goal.invariant-loop-band
invariant-loop-band l = record {
  left : AreCostBands l.ground l.first (drop l.band-index l.bands);
  joined : AreCostsTo l.ground l.first l.costs.items l.queue;
}
