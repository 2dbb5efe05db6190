use Rattle.std.proofs.Common.{length}
use Rattle.map_run.specs.Shown.{progress}
use Rattle.map_run.proofs.Feeding.{Feeding}
use Rattle.map_run.proofs.lines.feed.Given as goal

abbrev pub invariant-loop-line : goal.invariant-loop-line
invariant-loop-line g l = Feeding l.initial.session l.session
    (progress g.K.Sink.held g.K.Sink.faults l.initial.sink (g.M.Tally.counts l.initial.tally))
    (progress g.K.Sink.held g.K.Sink.faults l.sink (g.M.Tally.counts l.tally))
    l.initial.piece.kept.items l.piece.kept.items l.initial.piece.count l.piece.count l.initial.piece.returns l.piece.returns l.bytes l.rest

abbrev pub decreases-loop-line : goal.decreases-loop-line
decreases-loop-line g l = length l.rest
