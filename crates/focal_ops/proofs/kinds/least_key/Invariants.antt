use Rattle.std.proofs.Common.{ℕ, ◌<◌, ◌≤◌, get_or, pos}
use Rattle.focal_ops.specs.Kinds.{IsKey}
use Rattle.focal_ops.proofs.kinds.least_key.Given as goal

abbrev pub invariant-loop-k : goal.invariant-loop-k
invariant-loop-k l = record {
  some : 1 ≤ l.k;
  first : (j : ℕ) → j < l.k → (key : ℕ) × IsKey l.least (get_or l.kinds.values j (pos 0)) (get_or l.kinds.counts j 0) key × (l.best ≤ key);
  reached : (j : ℕ) × (j < l.k) × IsKey l.least (get_or l.kinds.values j (pos 0)) (get_or l.kinds.counts j 0) l.best;
}
