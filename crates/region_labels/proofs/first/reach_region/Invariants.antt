use Rattle.std.proofs.Common.{◌≡◌, ◌-◌, ◌≤◌, length, ℤ, Some}
use Rattle.map_nums.specs.Grids.{cells_in}
use Rattle.region_labels.specs.Flood.{IsFlooding, IsRoundTo}
use Rattle.region_labels.specs.Lists.{labelled, flood_of, MayGet}
use Rattle.region_labels.proofs.first.reach_region.Given as goal

abbrev pub invariant-loop-head : goal.invariant-loop-head
invariant-loop-head l = record {
  floods : (z : ℤ) → l.value ≡ Some z → IsFlooding l.fn.list.size l.cells z l.root (labelled l.fn.list.labels) (flood_of l.list);
  round : (z : ℤ) → l.value ≡ Some z → IsRoundTo l.fn.list.size l.cells z l.head (flood_of l.list);
  extent : l.list.size ≡ l.fn.list.size;
  labels : MayGet l.label l.fn.list.labels l.list.labels;
  head : l.head ≤ length l.list.found;
}

abbrev pub decreases-loop-head : goal.decreases-loop-head
decreases-loop-head l = cells_in l.fn.list.size - l.head
