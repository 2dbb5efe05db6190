use Rattle.std.proofs.Common.{◌≡◌, take}
use Rattle.kept_map.specs.Copies.{steps_view}
use Rattle.kept_map.proofs.copying.copy_steps.Given as goal

abbrev pub invariant-loop-step : goal.invariant-loop-step
invariant-loop-step l = steps_view l.copies.items ≡ steps_view (take l.step-index l.steps)
