use Rattle.std.proofs.Common.{◌≡◌, ℕ, ◌<◌, get_or, length, pos}
use Rattle.focal_ops.specs.Masks.{numbers_to}
use Rattle.focal_ops.specs.Extremes.{IsMost}
use Rattle.focal_ops.proofs.extremes.words_round.Given as goal

abbrev pub invariant-loop-k : goal.invariant-loop-k
invariant-loop-k l = record {
  room : length l.words ≡ 32;
  words : (c : ℕ) → c < l.columns → IsMost l.least (numbers_to l.mask.reach l.mask.halves l.near.cells l.near.width l.r c l.k) (get_or l.words c (pos 0));
}
