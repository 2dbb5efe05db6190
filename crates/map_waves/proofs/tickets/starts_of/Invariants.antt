use Rattle.std.proofs.Common.{◌≡◌, ◌<◌, ℕ, length, take}
use Rattle.std.specs.Prelude.{slice_index}
use Rattle.map_waves.specs.Seating.{all_jobs}
use Rattle.map_waves.proofs.tickets.starts_of.Given as goal

abbrev pub invariant-loop-own : goal.invariant-loop-own
invariant-loop-own g l = record {
  count : length l.starts.items ≡ l.own-index;
  each : (i : ℕ) → i < l.own-index → slice_index l.starts.items i ≡ all_jobs (take i l.jobs);
  sum : l.start ≡ all_jobs (take l.own-index l.jobs);
}
