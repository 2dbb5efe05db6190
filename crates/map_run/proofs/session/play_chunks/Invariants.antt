use Rattle.std.proofs.Common.{◌≡◌, ◌≤◌, ◌-◌}
use Rattle.layer_tiles.specs.Tallies.{KeepsParts}
use Rattle.map_run.specs.Shown.{progress}
use Rattle.map_run.proofs.Playing.{Playing}
use Rattle.map_run.proofs.session.play_chunks.Given as goal

abbrev pub invariant-loop-taken : goal.invariant-loop-taken
invariant-loop-taken g l = record {
  within : l.taken ≤ l.limit;
  short : l.piece.count ≤ l.taken;
  parts : KeepsParts (g.M.Tally.counts l.initial.tally) (g.M.Tally.counts l.tally);
  source : g.S.Source.faults l.source ≡ g.S.Source.faults l.initial.source;
  playing : Playing l.initial.session l.session (g.S.Source.left l.initial.source) (g.S.Source.left l.source)
      (progress g.K.Sink.held g.K.Sink.faults l.initial.sink (g.M.Tally.counts l.initial.tally))
      (progress g.K.Sink.held g.K.Sink.faults l.sink (g.M.Tally.counts l.tally))
      l.piece.kept.items l.piece.count l.piece.returns l.taken;
}

abbrev pub decreases-loop-taken : goal.decreases-loop-taken
decreases-loop-taken g l = l.limit - l.taken
