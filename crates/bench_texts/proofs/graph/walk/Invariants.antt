use Rattle.std.proofs.Common.{◌≤◌}
use Rattle.bench_texts.proofs.graph.walk.Given as goal

abbrev pub invariant-loop-k : goal.invariant-loop-k
invariant-loop-k l = l.found ≤ l.k
