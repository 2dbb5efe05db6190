use Rattle.std.proofs.Common.{◌≡◌, ◌+◌, ◌-◌, ◌*◌, ◌≤◌}
use Rattle.layer_tiles.specs.Tallies.{RisesBy}
use Rattle.tile_work.specs.Working.{IsSameWork, copies}
use Rattle.region_labels.specs.Flood.{marks_in}
use Rattle.region_labels.specs.Copies.{CopiesWith}
use Rattle.region_labels.specs.Repairs.{IsLabelStep, IsRoundHandledTo}
use Rattle.region_labels.specs.Touched.{IsMarkedFor, IsReachedFrom}
use Rattle.region_labels.proofs.labels.label_round.Given as goal

abbrev pub invariant-loop-r : goal.invariant-loop-r
invariant-loop-r g l = record {
  same : IsSameWork l.initial.labels l.labels;
  extent : l.flood.size ≡ l.initial.flood.size;
  step : IsLabelStep l.of.size l.of.cells l.initial.labels.cells l.initial.flood.marks l.labels.cells l.flood.marks;
  handled : IsRoundHandledTo l.of.size l.of.cells l.from l.r l.flood.marks;
  copied : CopiesWith l.of.size l.of.cells l.initial.labels.cells l.initial.flood.marks l.initial.labels.copied l.labels.copied;
  more : copies l.initial.labels.copied ≤ copies l.labels.copied;
  picks : RisesBy (copies l.labels.copied - copies l.initial.labels.copied) (3 * (l.r - l.low) + 10 * (marks_in l.flood.marks - marks_in l.initial.flood.marks)) (g.M.Tally.counts l.initial.tally) (g.M.Tally.counts l.tally);
  caused : IsMarkedFor (IsReachedFrom l.of.size l.of.cells l.from) l.initial.flood.marks l.flood.marks;
}
