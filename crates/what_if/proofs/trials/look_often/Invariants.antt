use Rattle.layer_tiles.specs.Tallies.{RisesBy}
use Rattle.what_if.proofs.trials.look_often.Given as goal

abbrev pub invariant-loop-look : goal.invariant-loop-look
invariant-loop-look g l = record { tally : RisesBy l._look 0 (g.M.Tally.counts l.initial.tally) (g.M.Tally.counts l.tally) }
