use Rattle.std.proofs.Common.{◌≡◌, length, Result}
use Rattle.layer_tiles.specs.Tallies.{KeepsParts}
use Rattle.map_machine.specs.States.{MapState}
use Rattle.map_machine.specs.Lines.{lines_of}
use Rattle.map_run.specs.Loads.{model_lines_stage}
use Rattle.map_run.specs.Progress.{Progress}
use Rattle.map_run.specs.Shown.{progress}
use Rattle.map_run.specs.Stages.{Comes}
use Rattle.map_run.specs.declared.stop.Stop.{Stop}
use Rattle.map_run.proofs.model.play_lines.Given as goal

abbrev pub invariant-loop-line : goal.invariant-loop-line
invariant-loop-line g l = record {
  parts : KeepsParts (g.M.Tally.counts l.initial.tally) (g.M.Tally.counts l.tally);
  sink : g.K.Sink.faults l.sink ≡ g.K.Sink.faults l.initial.sink;
  goes : (c : Progress) (came : Result MapState Stop)
      → Comes (model_lines_stage l.session (lines_of l.rest)) (progress g.K.Sink.held g.K.Sink.faults l.sink (g.M.Tally.counts l.tally)) c came
      → Comes (model_lines_stage l.initial.session (lines_of l.bytes))
      (progress g.K.Sink.held g.K.Sink.faults l.initial.sink (g.M.Tally.counts l.initial.tally)) c came;
}

abbrev pub decreases-loop-line : goal.decreases-loop-line
decreases-loop-line g l = length l.rest
