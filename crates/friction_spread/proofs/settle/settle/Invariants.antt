use Rattle.std.proofs.Common.{◌+◌, ◌-◌, ◌*◌, ◌≤◌, length, suc}
use Rattle.map_nums.specs.Grids.{cells_in}
use Rattle.layer_tiles.specs.Tallies.{RisesBy}
use Rattle.tile_work.specs.Working.{IsSameWork, base_of, copies}
use Rattle.least_costs.specs.Ranks.{arrived}
use Rattle.least_costs.specs.Best.{IsRepairing}
use Rattle.friction_spread.specs.Costs.{values, AreCosts, net_of}
use Rattle.friction_spread.specs.Copied.{IsCaused}
use Rattle.friction_spread.proofs.Settling.{allowed}
use Rattle.friction_spread.proofs.settle.settle.Given as goal

abbrev pub invariant-loop-key : goal.invariant-loop-key
invariant-loop-key g l = record {
  same : IsSameWork l.initial.labels l.labels;
  costs : AreCosts l.ground.limit l.labels.cells;
  repairing : IsRepairing (net_of l.ground) (values l.ground.limit (base_of l.initial.labels.before)) (values l.ground.limit l.labels.cells) l.queue l.moved;
  caused : IsCaused l.ground l.labels;
  enough : 21 * length l.queue ≤ 21 * length l.initial.queue + allowed l.moved (arrived (suc l.ground.limit) (values l.ground.limit (base_of l.initial.labels.before)) (values l.ground.limit l.labels.cells) (cells_in l.ground.size));
  more : copies l.initial.labels.copied ≤ copies l.labels.copied;
  tally : RisesBy (copies l.labels.copied - copies l.initial.labels.copied) (21 * length l.initial.queue + allowed l.moved (arrived (suc l.ground.limit) (values l.ground.limit (base_of l.initial.labels.before)) (values l.ground.limit l.labels.cells) (cells_in l.ground.size)) - 21 * length l.queue) (g.M.Tally.counts l.initial.tally) (g.M.Tally.counts l.tally);
}

abbrev pub decreases-loop-key : goal.decreases-loop-key
decreases-loop-key g l = 11 * (2 * cells_in l.ground.size - (l.moved + arrived (suc l.ground.limit) (values l.ground.limit (base_of l.initial.labels.before)) (values l.ground.limit l.labels.cells) (cells_in l.ground.size))) + length l.queue
