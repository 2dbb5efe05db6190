use Rattle.std.proofs.Common.{◌+◌, ◌-◌, ◌≤◌}
use Rattle.region_labels.specs.Lists.{labelled, flood_of, MayGet}
use Rattle.region_labels.specs.Runs.{IsRunGrown, IsRunRowTo}
use Rattle.region_labels.proofs.first.reach_row.Given as goal

abbrev pub invariant-loop-next : goal.invariant-loop-next
invariant-loop-next l = record {
  grown : IsRunGrown l.fn.list.size l.cells l.value l.run.at l.run.count (flood_of l.fn.list) (flood_of l.list);
  labels : MayGet l.label l.fn.list.labels l.list.labels;
  near : IsRunRowTo l.fn.list.size l.cells l.value l.run.at l.run.count l.row l.next (labelled l.list.labels);
  begun : l.start ≤ l.next;
  least : l.start + l.run.column ≤ l.next + 1;
  most : l.next ≤ l.end + 1;
}

abbrev pub decreases-loop-next : goal.decreases-loop-next
decreases-loop-next l = l.end + 1 - l.next
