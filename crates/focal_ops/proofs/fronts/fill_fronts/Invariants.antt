use Rattle.std.proofs.Common.{◌≡◌, take}
use Rattle.map_nums.specs.Grids.{numbers_in}
use Rattle.map_nums.specs.Stats.{total_of}
use Rattle.focal_ops.specs.Totals.{IsFront, IsWithin, count_of}
use Rattle.focal_ops.proofs.fronts.fill_fronts.Given as goal

abbrev pub invariant-loop-m : goal.invariant-loop-m
invariant-loop-m l = record {
  sum : l.sum ≡ total_of (numbers_in (take l.m l.square));
  found : l.found ≡ count_of (numbers_in (take l.m l.square));
  sum_within : IsWithin l.m l.sum;
  found_within : IsWithin l.m l.found;
  sums : IsFront total_of l.square l.m l.sums;
  counts : IsFront count_of l.square l.m l.counts;
}
