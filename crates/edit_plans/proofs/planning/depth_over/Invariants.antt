use Rattle.std.proofs.Common.{◌≡◌, ◌+◌, ◌^◌, ◌<◌, fold, max, take}
use Rattle.edit_plans.specs.Planned.{ref_depth}
use Rattle.edit_plans.proofs.planning.depth_over.Given as goal

abbrev pub invariant-loop-operand : goal.invariant-loop-operand
invariant-loop-operand l = (l.depth ≡ fold (λ d r. max d (ref_depth l.steps r)) 0 (take l.operand-index l.refs)) × (l.depth + 1 < 2 ^ 32)
