use Rattle.region_labels.proofs.Running.{IsRunning}
use Rattle.region_labels.proofs.first.reach_run.Given as goal

abbrev pub invariant-loop-j : goal.invariant-loop-j
invariant-loop-j l = IsRunning l.fn.list.size l.cells l.value l.label l.fn.at l.j l.fn.list l.list
