use Rattle.std.proofs.Common.{take}
use Rattle.layer_tiles.specs.Tallies.{KeepsParts}
use Rattle.map_machine.specs.SampleLines.{sample_lines}
use Rattle.map_run.specs.Answered.{AnswersAll}
use Rattle.map_run.specs.Shown.{progress}
use Rattle.map_run.proofs.sample.play_sample.Given as goal

abbrev pub invariant-loop-k : goal.invariant-loop-k
invariant-loop-k g l = record {
  parts : KeepsParts (g.M.Tally.counts l.initial.tally) (g.M.Tally.counts l.tally);
  answered : AnswersAll l.initial.session l.session (take l.k (sample_lines l.side.count))
      (progress g.K.Sink.held g.K.Sink.faults l.initial.sink (g.M.Tally.counts l.initial.tally))
      (progress g.K.Sink.held g.K.Sink.faults l.sink (g.M.Tally.counts l.tally));
}
