use Rattle.std.proofs.Common.{◌≡◌, length}
use Rattle.bench_texts.proofs.plans.reads_of.Given as goal

abbrev pub invariant-loop-back : goal.invariant-loop-back
invariant-loop-back l = length l.names.items ≡ l.back
