use Rattle.std.proofs.Common.{◌-◌, ◌*◌}
use Rattle.layer_tiles.specs.Tallies.{RisesBy}
use Rattle.friction_neighbor.specs.Gathers.{IsGathered, RowBroughtTo}
use Rattle.friction_neighbor.proofs.gathers.by_row.Given as goal

abbrev pub invariant-loop-c : goal.invariant-loop-c
invariant-loop-c g l = record {
  gathered : IsGathered l.field.field l.values.cells l.to.spot.at l.fn.best l.least;
  brought : RowBroughtTo l.field.field l.values.cells l.to.spot.at l.least l.row l.c;
  picks : RisesBy 0 (3 * (l.c - l.low)) (g.M.Tally.counts l.initial.tally) (g.M.Tally.counts l.tally);
}
