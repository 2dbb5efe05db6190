use Rattle.std.proofs.Common.{◌≡◌, ◌-◌, ◌*◌, ◌≤◌, length, ℤ, Some}
use Rattle.map_nums.specs.Grids.{cells_in}
use Rattle.layer_tiles.specs.Tallies.{RisesBy}
use Rattle.region_labels.specs.Flood.{IsFlooding, IsRoundTo}
use Rattle.region_labels.proofs.floods.reach_region.Given as goal

abbrev pub invariant-loop-head : goal.invariant-loop-head
invariant-loop-head g l = record {
  floods : (z : ℤ) → l.value ≡ Some z → IsFlooding l.of.size l.of.cells z l.root l.fn.flood.marks l.flood;
  round : (z : ℤ) → l.value ≡ Some z → IsRoundTo l.of.size l.of.cells z l.head l.flood;
  extent : l.flood.size ≡ l.fn.flood.size;
  head : l.head ≤ length l.flood.found;
  picks : RisesBy 0 (9 * l.head) (g.M.Tally.counts l.initial.tally) (g.M.Tally.counts l.tally);
}

abbrev pub decreases-loop-head : goal.decreases-loop-head
decreases-loop-head g l = cells_in l.of.size - l.head
