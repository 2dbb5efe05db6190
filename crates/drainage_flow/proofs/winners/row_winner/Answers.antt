use Rattle.std.proofs.Common.{◌≡◌, ℤ, Option, Some, ◌+◌, rules, sym, ◌∙◌, ap, arith}
use Rattle.map_nums.specs.Widths.{value_width}
use mir.Val.{SFits, to_z, of_z}
use Rattle.std.proofs.lemmas.Int.{to_z-of_z}
use Rattle.map_nums.specs.Grids.{cell_at}
use Rattle.drainage_flow.proofs.Around.{read, round_rows}
use Rattle.drainage_flow.proofs.Steepest.{winner_null}
use Rattle.drainage_flow.proofs.winners.row_winner.Goals as goal

pub returns-in_default-clause-winner : goal.returns-in_default-clause-winner
returns-in_default-clause-winner c = λ s surface at h.
    winner_null s surface at (sym (c.in_default.ensures.value ∙ read c.args.here.now (c.args.left + 1) c.index-here-middle.result c.index-here-middle.is (omega (arith, c.requires.here)) ∙ h.own))

pub returns-clause-winner : goal.returns-clause-winner
returns-clause-winner c = λ s surface at h.
    let fits : SFits value_width c.in-Some.height = search rules in
    let e : Some (to_z value_width (of_z value_width c.in-Some.height)) ≡ cell_at surface at = ap (λ (z : ℤ). let o : Option ℤ = Some z in o) (to_z-of_z value_width c.in-Some.height fits) ∙ c.in-Some.ensures.value ∙ read c.args.here.now (c.args.left + 1) c.index-here-middle.result c.index-here-middle.is (omega (arith, c.requires.here)) ∙ h.own in
    c.winner.ensures.winner s surface at (sym e) (round_rows s surface at c.args.left c.args.above.now c.args.here.now c.args.below.now c.index-above-middle.result c.index-above-right.result c.index-here-right.result c.index-below-right.result c.index-below-middle.result c.index-below-left.result c.index-here-left.result c.index-above-left.result h c.index-above-middle.is c.index-above-right.is c.index-here-right.is c.index-below-right.is c.index-below-middle.is c.index-below-left.is c.index-here-left.is c.index-above-left.is)
