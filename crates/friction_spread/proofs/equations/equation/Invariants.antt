use Rattle.std.proofs.Common.{suc, ◌-◌, ◌*◌}
use Rattle.layer_tiles.specs.Tallies.{RisesBy}
use Rattle.friction_spread.specs.Costs.{values, net_of}
use Rattle.friction_spread.proofs.equations.equation.Given as goal
use Rattle.friction_spread.specs.Rows.{IsLowered, RoundLoweredTo}

abbrev pub invariant-loop-r : goal.invariant-loop-r
invariant-loop-r g l = record {
  lowered : IsLowered (net_of l.ground) (values l.ground.limit l.labels.cells) l.focus.spot.at (suc l.ground.limit) l.least;
  near : RoundLoweredTo (net_of l.ground) l.ground.size (values l.ground.limit l.labels.cells) l.focus.spot.at l.r l.least;
  picks : RisesBy 0 (6 * (l.r - l.low)) (g.M.Tally.counts l.initial.tally) (g.M.Tally.counts l.tally);
}
