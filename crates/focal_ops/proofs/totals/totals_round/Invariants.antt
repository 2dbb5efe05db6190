use Rattle.std.proofs.Common.{◌≡◌, ℕ, ◌*◌, ◌<◌, get_or, length, pos}
use Rattle.focal_ops.specs.Totals.{IsWithin, differences}
use Rattle.focal_ops.proofs.totals.totals_round.Given as goal

abbrev pub invariant-loop-k : goal.invariant-loop-k
invariant-loop-k l = record {
  room : length l.totals ≡ 32;
  totals : (c : ℕ) → c < l.columns → get_or l.totals c (pos 0) ≡ differences l.mask.reach l.mask.halves l.fronts l.near.width l.r c l.k;
  within : (c : ℕ) → c < l.columns → IsWithin (65 * l.k) (get_or l.totals c (pos 0));
}
