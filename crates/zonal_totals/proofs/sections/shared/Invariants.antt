use Rattle.std.proofs.Common.{◌≡◌, take}
use Rattle.zonal_totals.proofs.sections.shared.Given as goal

abbrev pub invariant-loop-section : goal.invariant-loop-section
invariant-loop-section l = l.sections.items ≡ take l.section-index l.base
