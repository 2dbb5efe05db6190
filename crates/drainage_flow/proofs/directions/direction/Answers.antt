use Rattle.std.proofs.Common.{◌≡◌, ℤ, Option, Some, rules, sym, ◌∙◌, ap}
use Rattle.map_nums.specs.Widths.{value_width}
use mir.Val.{SFits, to_z, of_z}
use Rattle.std.proofs.lemmas.Int.{to_z-of_z}
use Rattle.map_nums.specs.Grids.{cell_at}
use Rattle.drainage_flow.proofs.Around.{direction_is, direction_null}
use Rattle.drainage_flow.proofs.directions.direction.Goals as goal

pub returns-in_default : goal.returns-in_default
returns-in_default c = direction_null c.args.extent c.args.window.now.cells c.args.at (c.in_default.ensures.value ∙ c.lent_cell.ensures)

pub returns : goal.returns
returns c =
    let fits : SFits value_width c.in-Some.here = search rules in
    let e : Some (to_z value_width (of_z value_width c.in-Some.here)) ≡ cell_at c.args.window.now.cells c.args.at = ap (λ (z : ℤ). let o : Option ℤ = Some z in o) (to_z-of_z value_width c.in-Some.here fits) ∙ c.in-Some.ensures.value ∙ c.lent_cell.ensures in
    direction_is c.args.extent c.args.window.now.cells c.args.at (to_z value_width (of_z value_width c.in-Some.here)) c.winner.result c.numbered.result e (c.winner.ensures.winner c.args.extent c.args.window.now.cells c.args.at (sym e) c.lent_around-around.ensures) c.numbered.ensures.number
