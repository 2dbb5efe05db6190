use Rattle.map_waves.specs.Filled.{IsFilled}
use Rattle.map_waves.proofs.finish.fill.Given as goal

abbrev pub invariant-loop-place : goal.invariant-loop-place
invariant-loop-place g l = IsFilled l._place l.fn.list.items l.list.items
