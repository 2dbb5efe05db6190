use Rattle.std.proofs.Common.{length}
use Rattle.std.specs.List.{All}
use Rattle.map_waves.specs.Tasks.{AreBetween, StaysAt, IsTask, places_of}
use Rattle.map_waves.proofs.tasks.tasks_of.Given as goal

abbrev pub invariant-loop-place : goal.invariant-loop-place
invariant-loop-place g l = record {
  between : AreBetween (StaysAt g.K.Maker.means g.K.Maker.suits l.base l.steps) (length l.prepared) l.place (places_of l.tasks.items);
  each : All (IsTask g.K.Maker.means g.K.Maker.formed g.K.Maker.suits l.base l.steps) l.tasks.items;
}
