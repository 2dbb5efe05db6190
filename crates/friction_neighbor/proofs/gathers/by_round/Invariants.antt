use Rattle.std.proofs.Common.{◌-◌, ◌*◌, None}
use Rattle.layer_tiles.specs.Tallies.{RisesBy}
use Rattle.friction_neighbor.specs.Gathers.{IsGathered, RoundBroughtTo}
use Rattle.friction_neighbor.proofs.gathers.by_round.Given as goal

abbrev pub invariant-loop-r : goal.invariant-loop-r
invariant-loop-r g l = record {
  gathered : IsGathered l.field.field l.values.cells l.to.spot.at None l.least;
  brought : RoundBroughtTo l.field.field l.values.cells l.to.spot.at l.least l.r;
  picks : RisesBy 0 (9 * (l.r - l.low)) (g.M.Tally.counts l.initial.tally) (g.M.Tally.counts l.tally);
}
