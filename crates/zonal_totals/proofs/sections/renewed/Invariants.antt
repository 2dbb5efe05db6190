use Rattle.std.proofs.Common.{◌≤◌, length}
use Rattle.zonal_totals.proofs.Renewing.{IsRenewing}
use Rattle.zonal_totals.proofs.sections.renewed.Given as goal

abbrev pub invariant-loop-section : goal.invariant-loop-section
invariant-loop-section l = record {
  within : l.from ≤ length l.steps;
  renewing : IsRenewing l.base l.steps l.section-index l.from l.sections.items;
}
