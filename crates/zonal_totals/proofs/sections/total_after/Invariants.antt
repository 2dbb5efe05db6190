use Rattle.std.proofs.Common.{◌≡◌, ◌+ℤ◌, take}
use Rattle.map_nums.specs.Stats.{total_of}
use Rattle.zonal_totals.specs.Numbers.{numbers}
use Rattle.zonal_totals.specs.Rises.{rise_of}
use Rattle.zonal_totals.proofs.sections.total_after.Given as goal

abbrev pub invariant-loop-step : goal.invariant-loop-step
invariant-loop-step l = l.sum ≡ total_of (numbers l.section) +ℤ rise_of (take l.step-index l.steps)
