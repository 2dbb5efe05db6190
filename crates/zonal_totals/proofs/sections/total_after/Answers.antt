use Rattle.std.proofs.Common.{get_or, w32, FitsSigned, rules, to_z, pos}
use Rattle.std.specs.Int.{w128}
use Rattle.map_nums.specs.Stats.{total_of}
use Rattle.map_nums.specs.Widths.{value_width}
use Rattle.zonal_totals.specs.declared.steps.Step.{Step}
use Rattle.zonal_totals.specs.Numbers.{numbers}
use Rattle.zonal_totals.proofs.Worths.{sum_rises}
use Rattle.zonal_totals.proofs.Rises.{rise_next}
use Rattle.zonal_totals.proofs.sections.total_after.Goals as goal

pub loop-step-preserved : goal.loop-step-preserved
loop-step-preserved c =
    let add = c.in_ok-sum.ensures in
    let mul = c.in_ok-rise.ensures in
    let d : Step = record { pair = record { zone = pos 0; key = pos 0 }; by = pos 0 } in
    let s = get_or c.args.steps.now c.loop-step.step-index d in
    let k : FitsSigned value_width s.pair.key = search rules in
    let b : FitsSigned w32 s.by = search rules in
    rise_next (total_of (numbers c.args.section.now)) (to_z w128 c.loop-step.sum-bits) _ c.args.steps.now c.loop-step.step-index d c.loop-step-test.true c.loop-step.invariant
    (sum_rises s.pair.key s.by c.in_ok-rise.rise (to_z w128 c.loop-step.sum-bits) c.in_ok-sum.sum k b mul.0 mul.1 add.0 add.1)
