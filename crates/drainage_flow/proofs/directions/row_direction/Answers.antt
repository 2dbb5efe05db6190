use Rattle.std.proofs.Common.{◌≡◌, ℤ, Option, Some, ◌+◌, rules, ◌∙◌, ap, arith}
use Rattle.map_nums.specs.Widths.{value_width}
use mir.Val.{SFits, to_z, of_z}
use Rattle.std.proofs.lemmas.Int.{to_z-of_z}
use Rattle.map_nums.specs.Grids.{cell_at}
use Rattle.drainage_flow.proofs.Around.{read, direction_is, direction_null}
use Rattle.drainage_flow.proofs.directions.row_direction.Goals as goal

pub returns-in_default-clause-direction : goal.returns-in_default-clause-direction
returns-in_default-clause-direction c = λ s surface i h.
    direction_null s surface i (c.in_default.ensures.value ∙ read c.args.here.now (c.args.left + 1) c.index-here-left.result c.index-here-left.is (omega (arith, c.requires.here)) ∙ h.own)

pub returns-clause-direction : goal.returns-clause-direction
returns-clause-direction c = λ s surface i h.
    let fits : SFits value_width c.in-Some._height = search rules in
    let e : Some (to_z value_width (of_z value_width c.in-Some._height)) ≡ cell_at surface i = ap (λ (z : ℤ). let o : Option ℤ = Some z in o) (to_z-of_z value_width c.in-Some._height fits) ∙ c.in-Some.ensures.value ∙ read c.args.here.now (c.args.left + 1) c.index-here-left.result c.index-here-left.is (omega (arith, c.requires.here)) ∙ h.own in
    direction_is s surface i (to_z value_width (of_z value_width c.in-Some._height)) c.row_winner.result c.numbered.result e (c.row_winner.ensures.winner s surface i h) c.numbered.ensures.number
