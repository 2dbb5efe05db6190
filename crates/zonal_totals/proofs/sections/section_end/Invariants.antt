use Rattle.std.proofs.Common.{◌<◌}
use Rattle.zonal_totals.proofs.sections.section_end.Given as goal

abbrev pub invariant-loop-end : goal.invariant-loop-end
invariant-loop-end l = l.from < l.end
