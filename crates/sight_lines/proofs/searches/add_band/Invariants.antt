use Rattle.std.proofs.Common.{◌*◌, ◌-◌, ◌+◌, ◌≤◌, min}
use Rattle.sight_lines.specs.Found.{IsFound}
use Rattle.sight_lines.proofs.searches.add_band.Given as goal

abbrev pub invariant-loop-at : goal.invariant-loop-at
invariant-loop-at l = record {
  low : l.fn.band * 32 * l.of.size.columns ≤ l.at;
  high : l.at ≤ min l.of.size.rows (l.fn.band * 32 + 32) * l.of.size.columns;
  found : IsFound l.of.cells l.at l.pairs.items l.found;
}

abbrev pub decreases-loop-at : goal.decreases-loop-at
decreases-loop-at l = l.end - l.at
