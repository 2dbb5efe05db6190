use Rattle.std.proofs.Common.{◌∙◌, List, ℕ, refl, ap, subst, arith, rules}
use mir.Val.{SFits}
use Rattle.std.specs.Prelude.{nat_abs}
use Rattle.std.proofs.lemmas.Int.{to_z-of_z}
use Rattle.map_nums.specs.Widths.{value_width}
use Rattle.map_defs.specs.Work.{first_work}
use Rattle.friction_spread.specs.Bands.{ground_of}
use Rattle.friction_spread.specs.Costs.{GroundState}
use Rattle.friction_spread.specs.Lists.{IsCostList}
use Rattle.friction_spread.specs.Shown.{shown_cells}
use Rattle.friction_spread.specs.declared.lists.CostList.{CostList}
use Rattle.friction_spread.proofs.Showing.{list_is}
use Rattle.friction_spread.proofs.bands.spread_of_bands.Goals as goal

pub returns : goal.returns
returns c =
    let fits : SFits value_width c.args.limit = search rules in
    let gr : GroundState = c.new-ground.result in
    let costs = c.in_ok-costs.costs in
    let list : CostList = record { limit = c.limit.result; costs = costs; worked = c.work_of-worked.result } in
    let is = c.new-ground.ensures ∙ ap (ground_of c.args.extent c.args.sources.now c.args.friction.now) (c.limit_of.ensures.value ∙ ap nat_abs (to_z-of_z value_width c.args.limit fits)) in
    let work = c.work_of-worked.ensures ∙ ap (λ (xs : List ℕ). first_work gr.size (shown_cells gr.size gr.limit xs)) c.deref.ensures.value in
    let P : GroundState → Type 0 = λ g. IsCostList g list in
    subst P is (list_is gr costs.items c.in_ok-costs.ensures.count c.in_ok-costs.ensures.least list c.limit.ensures.limit (omega (arith, c.limit.ensures.limit, c.limit.ensures.low)) refl work)
