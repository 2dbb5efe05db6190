use Rattle.std.proofs.Common.{None}
use Rattle.friction_neighbor.specs.Gathers.{IsGathered, RoundBroughtTo}
use Rattle.friction_neighbor.proofs.list_gathers.by_round.Given as goal

abbrev pub invariant-loop-r : goal.invariant-loop-r
invariant-loop-r l = record {
  gathered : IsGathered l.field l.values l.to.spot.at None l.least;
  brought : RoundBroughtTo l.field l.values l.to.spot.at l.least l.r;
}
