use Rattle.drainage_flow.specs.Steepest.{fall_to}
use Rattle.drainage_flow.specs.Marks.{IsMark}
use Rattle.drainage_flow.proofs.winners.winner.Given as goal

abbrev pub invariant-loop-k : goal.invariant-loop-k
invariant-loop-k l = IsMark (fall_to l.here l.around) l.k l.best
