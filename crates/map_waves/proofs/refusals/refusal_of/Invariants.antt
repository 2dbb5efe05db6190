use Rattle.std.proofs.Common.{take}
use Rattle.map_waves.specs.Refusals.{IsSoFar}
use Rattle.map_waves.proofs.refusals.refusal_of.Given as goal

abbrev pub invariant-loop-one : goal.invariant-loop-one
invariant-loop-one g l = IsSoFar (take l.one-index l.row) l.least
