use Rattle.std.proofs.Common.{◌-◌, ◌*◌, ◌≤◌, length}
use Rattle.layer_tiles.specs.Tallies.{RisesBy}
use Rattle.map_waves.specs.Plans.{evaluated_to, worked_to}
use Rattle.map_waves.specs.Bases.{plan_of}
use Rattle.map_waves.specs.Prepared.{ArePrepared}
use Rattle.map_waves.specs.Phases.{AreFaultless}
use Rattle.map_waves.proofs.phases.repair_all.Given as goal

abbrev pub invariant-depths : goal.invariant-depths
invariant-depths g l = record {
  most : length l.prepared.items ≤ length l.steps;
  prepared : ArePrepared g.K.Maker.means g.K.Maker.suits l.base l.steps 0 l.prepared.items;
  faultless : AreFaultless (plan_of g.K.Maker.means l.base l.steps) 0 (length l.prepared.items);
  tally : RisesBy (62 * evaluated_to (plan_of g.K.Maker.means l.base l.steps) (length l.prepared.items))
      (1000 * worked_to (plan_of g.K.Maker.means l.base l.steps) (length l.prepared.items)) (g.M.Tally.counts l.fn.tally) (g.M.Tally.counts l.tally);
}

abbrev pub decreases-depths : goal.decreases-depths
decreases-depths g l = length l.steps - length l.prepared.items
