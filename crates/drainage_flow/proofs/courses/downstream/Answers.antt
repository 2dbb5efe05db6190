use Rattle.std.proofs.Common.{◌≡◌, ℤ, Option, Some, rules, sym, ◌∙◌, ap}
use Rattle.map_nums.specs.Widths.{value_width}
use mir.Val.{SFits, to_z, of_z}
use Rattle.std.proofs.lemmas.Int.{to_z-of_z}
use Rattle.map_nums.specs.Grids.{Size, cell_at, moved}
use Rattle.drainage_flow.specs.Sides.{cells_on}
use Rattle.drainage_flow.specs.Steepest.{offset_at}
use Rattle.drainage_flow.proofs.Steepest.{winner_null, downstream_none, downstream_some}
use Rattle.drainage_flow.proofs.courses.downstream.Goals as goal

pub returns-in_default-clause-place : goal.returns-in_default-clause-place
returns-in_default-clause-place g c =
    let s = c.args.surface.now.size in
    let cells = cells_on c.args.surface.now c.args.side in
    downstream_none s cells c.args.at (winner_null s cells c.args.at (sym c.cell_on.ensures.cell ∙ sym c.in_default.ensures.value))

pub returns-in_default-winner-clause-place : goal.returns-in_default-winner-clause-place
returns-in_default-winner-clause-place g c =
    let s = c.args.surface.now.size in
    let cells = cells_on c.args.surface.now c.args.side in
    let fits : SFits value_width c.in-Some.here = search rules in
    let e : Some (to_z value_width (of_z value_width c.in-Some.here)) ≡ cell_at cells c.args.at = ap (λ (z : ℤ). let o : Option ℤ = Some z in o) (to_z-of_z value_width c.in-Some.here fits) ∙ c.in-Some.ensures.value ∙ c.cell_on.ensures.cell in
    downstream_none s cells c.args.at (c.in_default-winner.ensures.winner s cells c.args.at (sym e) c.around_on-around.ensures.around)

pub returns-clause-place : goal.returns-clause-place
returns-clause-place g c =
    let s = c.args.surface.now.size in
    let cells = cells_on c.args.surface.now c.args.side in
    let k = c.in-Some-winner.k in
    let fits : SFits value_width c.in-Some.here = search rules in
    let e : Some (to_z value_width (of_z value_width c.in-Some.here)) ≡ cell_at cells c.args.at = ap (λ (z : ℤ). let o : Option ℤ = Some z in o) (to_z-of_z value_width c.in-Some.here fits) ∙ c.in-Some.ensures.value ∙ c.cell_on.ensures.cell in
    c.neighbour.ensures.place ∙ ap (λ (z : Size). moved z c.args.at (offset_at k)) c.extent.ensures.extent ∙ downstream_some s cells c.args.at k (c.in-Some-winner.ensures.winner s cells c.args.at (sym e) c.around_on-around.ensures.around) c.in-Some-winner.ensures.few
