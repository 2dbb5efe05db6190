use Rattle.kept_map.proofs.Ready.{AreChangedTo, ComesToRest}
use Rattle.kept_map.proofs.placing.rest.Given as goal

abbrev pub invariant-loop-place : goal.invariant-loop-place
invariant-loop-place l = AreChangedTo ComesToRest l.place l.fn.steps l.steps
