use Rattle.std.proofs.Common.{◌≡◌}
use Rattle.bench_kernels.proofs.local.copy.Given as goal

abbrev pub invariant-loop-r : goal.invariant-loop-r
invariant-loop-r l = (l.made.height ≡ l.initial.made.height) × (l.made.width ≡ l.initial.made.width)
