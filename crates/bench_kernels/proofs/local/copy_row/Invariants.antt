use Rattle.std.proofs.Common.{◌≡◌}
use Rattle.bench_kernels.proofs.local.copy_row.Given as goal

abbrev pub invariant-loop-c : goal.invariant-loop-c
invariant-loop-c l = (l.made.height ≡ l.initial.made.height) × (l.made.width ≡ l.initial.made.width)
