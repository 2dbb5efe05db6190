use Rattle.std.proofs.Common.{◌≡◌, ◌≤◌, ◌<◌, ℕ, false, bytes_eq, decimal}
use Rattle.map_run.proofs.workers.side_in.Given as goal

abbrev pub invariant-loop-count : goal.invariant-loop-count
invariant-loop-count l = (k : ℕ) → 1 ≤ k → k < l.count → bytes_eq l.word (decimal k) ≡ false
