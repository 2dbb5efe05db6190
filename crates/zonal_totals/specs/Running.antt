-- Counts that rise by one place at a time.
use Rattle.std.specs.Prelude.{List, ◌++◌}
use Rattle.zonal_totals.specs.declared.running_counts.RunningCounts.{RunningCounts}
use Rattle.zonal_totals.specs.declared.steps.Step.{Step}

-- the steps in the slots and the others
abbrev pub steps_of : RunningCounts → List Step
steps_of c = c.recent.items ++ c.steps.items
