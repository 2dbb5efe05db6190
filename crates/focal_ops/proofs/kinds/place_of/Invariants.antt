use Rattle.std.proofs.Common.{◌≢◌, ℕ, ◌<◌, get_or, pos}
use Rattle.focal_ops.proofs.kinds.place_of.Given as goal

abbrev pub invariant-loop-k : goal.invariant-loop-k
invariant-loop-k l = (j : ℕ) → j < l.k → get_or l.values j (pos 0) ≢ l.number
