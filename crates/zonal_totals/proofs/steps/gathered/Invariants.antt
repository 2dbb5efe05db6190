use Rattle.std.proofs.Common.{◌≡◌, take}
use Rattle.zonal_totals.specs.Steps.{AllShort}
use Rattle.zonal_totals.specs.Settled.{settled}
use Rattle.zonal_totals.proofs.steps.gathered.Given as goal

abbrev pub invariant-loop-step : goal.invariant-loop-step
invariant-loop-step l = record {
  steps : l.out.items ≡ settled (take l.step-index l.steps);
  short : AllShort (take l.step-index l.steps);
}
