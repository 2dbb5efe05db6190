use Rattle.std.proofs.Common.{◌≡◌, ◌*◌, ◌≤◌, take}
use Rattle.focal_ops.specs.Masks.{numbers_to}
use Rattle.focal_ops.proofs.numbers.collect.Given as goal

abbrev pub invariant-loop-k : goal.invariant-loop-k
invariant-loop-k l = record {
  within : l.count ≤ 65 * l.k;
  numbers : take l.count l.numbers ≡ numbers_to l.mask.reach l.mask.halves l.near.cells l.near.width l.r l.c l.k;
}
