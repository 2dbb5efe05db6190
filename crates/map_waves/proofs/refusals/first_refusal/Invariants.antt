use Rattle.std.proofs.Common.{◌≡◌, take}
use Rattle.map_waves.specs.Seating.{all_jobs}
use Rattle.map_waves.specs.Refusals.{AllOkTo}
use Rattle.map_waves.proofs.refusals.first_refusal.Given as goal

abbrev pub invariant-loop-place : goal.invariant-loop-place
invariant-loop-place g l = record {
  start : l.start ≡ all_jobs (take l.place l.jobs);
  ok : AllOkTo l.jobs l.answers l.place;
}
