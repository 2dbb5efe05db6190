use Rattle.std.proofs.Common.{None, rules, ◌∙◌, ap, arith, to_z, of_z, w64}
use Rattle.map_nums.specs.Widths.{value_width}
use mir.Val.{SFits}
use Rattle.std.proofs.lemmas.Int.{to_z-of_z}
use Rattle.std.proofs.lemmas.List.{get_or_default}
use Rattle.map_defs.specs.Drainage.{drop_to}
use Rattle.drainage_flow.specs.Steepest.{offset_at, fall_to}
use Rattle.drainage_flow.specs.Marks.{marked}
use Rattle.drainage_flow.proofs.Marks.{mark_none, mark_more, mark_winner}
use Rattle.drainage_flow.proofs.winners.winner.Goals as goal

pub loop-k-init : goal.loop-k-init
loop-k-init c = mark_none _

pub loop-k-preserved : goal.loop-k-preserved
loop-k-preserved c =
    let here = to_z value_width (of_z value_width c.args.here) in
    let around = c.args.around.now in
    let k = c.loop-k.k in
    let fits : SFits w64 c.mark.result = search rules in
    let greater : SFits w64 c.greater-best.result = search rules in
    mark_more (fall_to here around) k _ _ _ c.loop-k-test.true c.loop-k.invariant
    (to_z-of_z w64 c.mark.result fits ∙ c.mark.ensures ∙ ap (λ cell. marked (drop_to here (offset_at k) cell) k) (get_or_default around k c.index-around-k.result None (omega (arith, c.told-around, c.loop-k-test.true))))
    (to_z-of_z w64 c.greater-best.result greater ∙ c.greater-best.ensures)

pub returns-clause-winner : goal.returns-clause-winner
returns-clause-winner c = λ s surface at e a.
    mark_winner s surface at c.args.here (to_z value_width (of_z value_width c.args.here)) c.args.around.now c.loop-k.k _ c.led_to.result (to_z-of_z value_width c.args.here c.ranges.here) (omega (arith, c.loop-k-test.false, c.loop-k.auto.k-end)) c.loop-k.invariant c.led_to.ensures.level c.led_to.ensures.falls e a
