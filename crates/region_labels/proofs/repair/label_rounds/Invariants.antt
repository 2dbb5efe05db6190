use Rattle.std.proofs.Common.{◌≡◌, ℕ, ◌+◌, ◌-◌, ◌*◌, ◌<◌, ◌≤◌, get_or}
use Rattle.layer_tiles.specs.Tallies.{RisesBy}
use Rattle.tile_work.specs.Working.{IsSameWork, copies}
use Rattle.region_labels.specs.Copies.{CopiesWith}
use Rattle.region_labels.specs.Repairs.{IsLabelStep, AreHandledRound}
use Rattle.region_labels.specs.Flood.{marks_in}
use Rattle.region_labels.specs.Touched.{IsMarkedFor, IsTouchedBy}
use Rattle.region_labels.proofs.repair.label_rounds.Given as goal

abbrev pub invariant-loop-at : goal.invariant-loop-at
invariant-loop-at g l = record {
  same : IsSameWork l.initial.labels l.labels;
  extent : l.flood.size ≡ l.initial.flood.size;
  step : IsLabelStep l.of.size l.of.cells l.initial.labels.cells l.initial.flood.marks l.labels.cells l.flood.marks;
  handled : (k : ℕ) → k < l.at-index → AreHandledRound l.of.size l.of.cells l.flood.marks (get_or l.changed k 0);
  caused : IsMarkedFor (IsTouchedBy l.of.size l.of.cells l.changed) l.initial.flood.marks l.flood.marks;
  copied : CopiesWith l.of.size l.of.cells l.initial.labels.cells l.initial.flood.marks l.initial.labels.copied l.labels.copied;
  more : copies l.initial.labels.copied ≤ copies l.labels.copied;
  picks : RisesBy (copies l.labels.copied - copies l.initial.labels.copied) (9 * l.at-index + 10 * (marks_in l.flood.marks - marks_in l.initial.flood.marks)) (g.M.Tally.counts l.initial.tally) (g.M.Tally.counts l.tally);
}
