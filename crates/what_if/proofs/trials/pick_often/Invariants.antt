use Rattle.layer_tiles.specs.Tallies.{RisesBy}
use Rattle.what_if.proofs.trials.pick_often.Given as goal

abbrev pub invariant-loop-pick : goal.invariant-loop-pick
invariant-loop-pick g l = record { tally : RisesBy 0 l._pick (g.M.Tally.counts l.initial.tally) (g.M.Tally.counts l.tally) }
