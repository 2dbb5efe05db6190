use Rattle.std.proofs.Common.{◌≡◌, ℕ, ◌+◌, ◌<◌, get_or, pos}
use Rattle.std.specs.Int.{int_max}
use Rattle.focal_ops.proofs.tables.fill_next.Given as goal

abbrev pub invariant-loop-m : goal.invariant-loop-m
invariant-loop-m l = record {
  joined : (j : ℕ) → j < l.m → get_or l.tables (l.here + l.count + j) (pos 0) ≡ int_max (get_or l.initial.tables (l.here + j) (pos 0)) (get_or l.initial.tables (l.here + (j + l.width)) (pos 0));
  kept : (j : ℕ) → j < l.here + l.count → get_or l.tables j (pos 0) ≡ get_or l.initial.tables j (pos 0);
}
