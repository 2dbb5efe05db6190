use Rattle.std.proofs.Common.{◌<◌, ◌≤◌, ◌-◌, length}
use Rattle.map_waves.specs.Phases.{AreAlike}
use Rattle.map_waves.proofs.phases.phase_end.Given as goal

abbrev pub invariant-loop-end : goal.invariant-loop-end
invariant-loop-end g l = record {
  some : l.first < l.end;
  most : l.end ≤ length l.steps;
  alike : AreAlike l.steps l.first l.end;
}

abbrev pub decreases-loop-end : goal.decreases-loop-end
decreases-loop-end g l = length l.steps - l.end
