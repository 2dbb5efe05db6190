use Rattle.std.proofs.Common.{◌≡◌, ◌<◌, ℤ, None, [], ◌∷◌, ◌++◌, length, rules, ◌∙◌, ap, arith}
use mir.Syntax.{w128}
use mir.Val.{SFits, to_z, of_z}
use Rattle.std.proofs.lemmas.Int.{to_z-of_z}
use Rattle.std.proofs.lemmas.List.{get_or_default}
use Rattle.map_nums.specs.Grids.{cell_at}
use Rattle.drainage_flow.specs.FlowNets.{brought}
use Rattle.drainage_flow.proofs.Firsts.{brought_more}
use Rattle.drainage_flow.proofs.first.brought_by.Goals as goal

pub loop-at-preserved : goal.loop-at-preserved
loop-at-preserved c =
    let at = c.loop-at.at in
    let surface = c.args.surface.now in
    let weights = c.args.weights.now in
    let fits : SFits w128 c.brought.result = search rules in
    let same : to_z w128 (of_z w128 c.brought.result) ≡ c.brought.result = to_z-of_z w128 c.brought.result fits in
    let within : at < length surface = omega (arith, c.loop-at-test.true) in
    brought_more surface weights at c.loop-at.amounts.items c.push.new.self.items c.brought.result c.loop-at.invariant
    (c.brought.ensures.brought ∙ ap (λ o. brought o c.index-weights-at.result) (c.index-surface-at.is ∙ get_or_default surface at c.index-surface-at.result None within) ∙ ap (brought (cell_at surface at)) (c.index-weights-at.is ∙ get_or_default weights at c.index-weights-at.result None (omega (arith, within, c.requires))))
    c.brought.ensures.small
    (c.in_ok-push.ensures.items ∙ ap (λ (z : ℤ). c.loop-at.amounts.items ++ z ∷ []) same)
