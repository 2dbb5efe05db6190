use Rattle.std.proofs.Common.{ℕ, ◌<◌, ◌≤◌, ◌≤ℤ◌, get_or}
use Rattle.zonal_totals.specs.declared.steps.Step.{Step}
use Rattle.zonal_totals.proofs.sections.steps_end.Given as goal

abbrev pub invariant-loop-at : goal.invariant-loop-at
invariant-loop-at l = (i : ℕ) (d : Step) → l.from ≤ i → i < l.at → (get_or l.steps i d).pair.zone ≤ℤ l.last.pair.zone
