use Rattle.std.proofs.Common.{◌≡◌, length}
use Rattle.std.specs.Prelude.{sum_by}
use Rattle.layer_tiles.specs.Tallies.{RisesBy}
use Rattle.map_waves.specs.Begun.{AreBegun}
use Rattle.map_waves.proofs.begin.begin_all.Given as goal

abbrev pub invariant-loop-task : goal.invariant-loop-task
invariant-loop-task g l = record {
  count : length l.jobs.items ≡ l.task-index;
  begun : AreBegun g.K.Maker.means g.K.Maker.sound g.K.Maker.first g.K.Maker.looks g.K.Maker.picks g.K.Maker.pieces l.base l.steps l.tasks l.jobs.items;
  tally : RisesBy (sum_by g.K.Maker.first l.jobs.items) 0 (g.M.Tally.counts l.fn.tally) (g.M.Tally.counts l.tally);
}
