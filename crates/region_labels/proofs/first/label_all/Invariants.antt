use Rattle.std.proofs.Common.{◌≡◌, ◌-◌, ◌≤◌}
use Rattle.region_labels.specs.Flood.{marks_in}
use Rattle.region_labels.specs.Repairs.{IsLabelStep}
use Rattle.region_labels.specs.Lists.{labelled, AreHandledTo}
use Rattle.region_labels.proofs.first.label_all.Given as goal

abbrev pub invariant-loop-at : goal.invariant-loop-at
invariant-loop-at l = record {
  extent : l.list.size ≡ l.fn.list.size;
  step : IsLabelStep l.fn.list.size l.cells l.fn.list.labels (labelled l.fn.list.labels) l.list.labels (labelled l.list.labels);
  handled : AreHandledTo l.cells l.list.labels l.at;
  most : l.at ≤ l.all;
  count : marks_in (labelled l.list.labels) ≡ l.count;
}

abbrev pub decreases-loop-at : goal.decreases-loop-at
decreases-loop-at l = l.all - l.at
