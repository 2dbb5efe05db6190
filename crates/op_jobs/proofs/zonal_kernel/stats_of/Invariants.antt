use Rattle.op_jobs.specs.Zonal.{AreStats}
use Rattle.op_jobs.proofs.zonal_kernel.stats_of.Given as goal

abbrev pub invariant-loop-r : goal.invariant-loop-r
invariant-loop-r l = AreStats l.stat l.book l.known
