use Rattle.std.proofs.Common.{◌-◌, ℕ, ◌<◌, ◌≤◌, ◌<ℤ◌, ◌≤ℤ◌, length}
use Rattle.zonal_totals.specs.declared.entries.Entry.{Entry}
use Rattle.zonal_totals.proofs.Sectioning.{first_of}
use Rattle.zonal_totals.proofs.sections.begun.Given as goal

abbrev pub invariant-loop-low : goal.invariant-loop-low
invariant-loop-low l = record {
  order : l.low ≤ l.high;
  within : l.high ≤ length l.sections;
  below : (i : ℕ) (d : Entry) → i < l.low → (first_of l.sections i d).pair.zone ≤ℤ l.pair.zone;
  above : (i : ℕ) (d : Entry) → l.high ≤ i → i < length l.sections → l.pair.zone <ℤ (first_of l.sections i d).pair.zone;
}

abbrev pub decreases-loop-low : goal.decreases-loop-low
decreases-loop-low l = l.high - l.low
