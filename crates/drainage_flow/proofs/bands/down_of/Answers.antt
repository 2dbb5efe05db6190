use Rattle.std.proofs.Common.{◌≡◌, ℤ, Option, Some, rules, sym, ◌∙◌, ap, arith}
use Rattle.map_nums.specs.Widths.{value_width}
use mir.Val.{SFits, to_z, of_z}
use Rattle.std.proofs.lemmas.Int.{to_z-of_z}
use Rattle.map_nums.specs.Grids.{cell_at}
use Rattle.drainage_flow.proofs.Around.{read}
use Rattle.drainage_flow.proofs.Steepest.{winner_null, downstream_none, downstream_some}
use Rattle.drainage_flow.proofs.bands.down_of.Goals as goal

pub returns-in_default : goal.returns-in_default
returns-in_default c =
    let e = read c.args.surface.now c.args.at c.index-surface-at.result c.index-surface-at.is (omega (arith, c.requires.count, c.requires.within)) in
    downstream_none c.args.extent c.args.surface.now c.args.at (winner_null c.args.extent c.args.surface.now c.args.at (sym e ∙ sym c.in_default.ensures.value))

pub returns-in_default-winner : goal.returns-in_default-winner
returns-in_default-winner c =
    let fits : SFits value_width c.in-Some.here = search rules in
    let e : Some (to_z value_width (of_z value_width c.in-Some.here)) ≡ cell_at c.args.surface.now c.args.at = ap (λ (z : ℤ). let o : Option ℤ = Some z in o) (to_z-of_z value_width c.in-Some.here fits) ∙ c.in-Some.ensures.value ∙ read c.args.surface.now c.args.at c.index-surface-at.result c.index-surface-at.is (omega (arith, c.requires.count, c.requires.within)) in
    downstream_none c.args.extent c.args.surface.now c.args.at (c.in_default-winner.ensures.winner c.args.extent c.args.surface.now c.args.at (sym e) c.around_in-around.ensures)

pub returns : goal.returns
returns c =
    let k = c.in-Some-winner.k in
    let fits : SFits value_width c.in-Some.here = search rules in
    let e : Some (to_z value_width (of_z value_width c.in-Some.here)) ≡ cell_at c.args.surface.now c.args.at = ap (λ (z : ℤ). let o : Option ℤ = Some z in o) (to_z-of_z value_width c.in-Some.here fits) ∙ c.in-Some.ensures.value ∙ read c.args.surface.now c.args.at c.index-surface-at.result c.index-surface-at.is (omega (arith, c.requires.count, c.requires.within)) in
    c.neighbour.ensures.place ∙ downstream_some c.args.extent c.args.surface.now c.args.at k (c.in-Some-winner.ensures.winner c.args.extent c.args.surface.now c.args.at (sym e) c.around_in-around.ensures) c.in-Some-winner.ensures.few
