use Rattle.std.proofs.Common.{◌-◌, ◌*◌}
use Rattle.layer_tiles.specs.Tallies.{RisesBy}
use Rattle.friction_spread.specs.Costs.{values, net_of}
use Rattle.friction_spread.proofs.equations.by_row.Given as goal
use Rattle.friction_spread.specs.Rows.{IsLowered, RowLoweredTo}

abbrev pub invariant-loop-c : goal.invariant-loop-c
invariant-loop-c g l = record {
  lowered : IsLowered (net_of l.ground) (values l.ground.limit l.labels.cells) l.to.spot.at l.fn.best l.least;
  near : RowLoweredTo (net_of l.ground) l.ground.size (values l.ground.limit l.labels.cells) l.to.spot.at l.row l.c l.least;
  picks : RisesBy 0 (2 * (l.c - l.low)) (g.M.Tally.counts l.initial.tally) (g.M.Tally.counts l.tally);
}
