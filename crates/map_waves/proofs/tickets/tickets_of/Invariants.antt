use Rattle.std.proofs.Common.{◌≡◌, ◌<◌, ◌^◌, take}
use Rattle.map_waves.specs.Seating.{all_jobs}
use Rattle.map_waves.proofs.tickets.tickets_of.Given as goal

abbrev pub invariant-loop-own : goal.invariant-loop-own
invariant-loop-own g l = record {
  sum : l.count ≡ all_jobs (take l.own-index l.jobs);
  few : l.count < 2 ^ 32;
}
