use Rattle.friction_neighbor.specs.Gathers.{IsGathered, RowBroughtTo}
use Rattle.friction_neighbor.proofs.list_gathers.by_row.Given as goal

abbrev pub invariant-loop-c : goal.invariant-loop-c
invariant-loop-c l = record {
  gathered : IsGathered l.field l.values l.to.spot.at l.fn.best l.least;
  brought : RowBroughtTo l.field l.values l.to.spot.at l.least l.row l.c;
}
