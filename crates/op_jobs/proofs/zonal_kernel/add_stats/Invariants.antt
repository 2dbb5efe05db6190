use Rattle.op_jobs.specs.Zonal.{AreStats}
use Rattle.op_jobs.proofs.zonal_kernel.add_stats.Given as goal

abbrev pub invariant-loop-cell : goal.invariant-loop-cell
invariant-loop-cell l = AreStats l.stat l.book l.known
