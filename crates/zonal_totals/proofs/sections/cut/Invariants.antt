use Rattle.std.proofs.Common.{◌≡◌, ◌-◌, ◌≤◌, ◌++◌, length, take, drop}
use Rattle.zonal_totals.specs.Entries.{Climbs}
use Rattle.zonal_totals.specs.Sections.{joined, end_of, lowest, last_zone, AreSections}
use Rattle.zonal_totals.proofs.sections.cut.Given as goal

abbrev pub invariant-loop-from : goal.invariant-loop-from
invariant-loop-from l = record {
  within : l.from ≤ length l.entries;
  sections : AreSections lowest l.sections.items;
  joins : joined l.sections.items ≡ joined l.initial.sections.items ++ take l.from l.entries;
  rest : Climbs (end_of (last_zone lowest (joined l.sections.items))) (drop l.from l.entries);
}

abbrev pub decreases-loop-from : goal.decreases-loop-from
decreases-loop-from l = length l.entries - l.from
