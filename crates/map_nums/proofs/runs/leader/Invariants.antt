use Rattle.map_nums.proofs.Leading.{IsLeading}
use Rattle.map_nums.proofs.runs.leader.Given as goal

abbrev pub invariant-loop-i : goal.invariant-loop-i
invariant-loop-i l = IsLeading l.wanted l.sorted l.i l.count l.best
