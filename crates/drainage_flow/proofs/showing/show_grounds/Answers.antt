use Rattle.std.proofs.Common.{◌≡◌, ◌+◌, ◌*◌, ◌∙◌, get_or, refl, ap, rules, arith, ℤ}
use Rattle.map_nums.specs.Widths.{value_width}
use mir.Syntax.{w128}
use mir.Val.{SFits, to_z, of_z}
use Rattle.std.proofs.lemmas.Int.{to_z-of_z}
use Rattle.std.proofs.lemmas.Result.{err_from_is_err_and}
use Rattle.tile_work.specs.Working.{copies}
use Rattle.drainage_flow.specs.FlowNets.{number_of}
use Rattle.drainage_flow.specs.Settling.{number_at}
use Rattle.drainage_flow.proofs.Shown.{forward_ground, ground_at, grounded_more, worked_few, same_then, rises_on, one_pick}
use Rattle.drainage_flow.proofs.showing.show_grounds.Goals as goal

pub show-requires-clause-few : goal.show-requires-clause-few
show-requires-clause-few g c = worked_few c.args.surface.now.size c.args.old.now.cells c.loop-at.flows c.loop-at.worked c.extent-tiles.ensures.size c.loop-at.invariant.worked

pub returns-in_err-worked-clause-err : goal.returns-in_err-worked-clause-err
returns-in_err-worked-clause-err g c =
    let r = err_from_is_err_and c.from_residual.result c.from_residual.ensures.1 in
    let fits : SFits w128 c.number-amount.result = search rules in
    let short : SFits value_width c.number-amount.result = search rules in
    let z = to_z w128 (of_z w128 (to_z value_width (of_z value_width c.number-amount.result))) in
    let same : z ≡ number_at c.args.old.now.cells (get_or c.args.changed.now c.loop-at.at-index 0) = ap (λ (y : ℤ). to_z w128 (of_z w128 y)) (to_z-of_z value_width c.number-amount.result short) ∙ to_z-of_z w128 c.number-amount.result fits ∙ c.number-amount.ensures.number ∙ ap number_of c.cell.ensures.cell in
    rw (r.1) (ground_at c.args.surface.now.size c.args.surface.now.cells c.args.old.now.cells c.args.changed.now c.loop-at.at-index c.loop-at.flows (get_or c.args.changed.now c.loop-at.at-index 0) z c.loop-at.invariant.grounded (c.requires.within c.loop-at.at-index 0 c.loop-at-test.true) same c.in_err-worked.ensures.err)

pub loop-at-preserved : goal.loop-at-preserved
loop-at-preserved g c =
    let s = c.args.surface.now.size in
    let surface = c.args.surface.now.cells in
    let old = c.args.old.now.cells in
    let changed = c.args.changed.now in
    let k = c.loop-at.at-index in
    let i = c.loop-at.invariant in
    let e = c.in_ok-worked.ensures in
    let fits : SFits w128 c.number-amount.result = search rules in
    let short : SFits value_width c.number-amount.result = search rules in
    let z = to_z w128 (of_z w128 (to_z value_width (of_z value_width c.number-amount.result))) in
    let same : z ≡ number_at old (get_or changed k 0) = ap (λ (y : ℤ). to_z w128 (of_z w128 y)) (to_z-of_z value_width c.number-amount.result short) ∙ to_z-of_z w128 c.number-amount.result fits ∙ c.number-amount.ensures.number ∙ ap number_of c.cell.ensures.cell in
    let within = c.requires.within k 0 c.loop-at-test.true in
    record {
      same = same_then c.args.flows.now c.loop-at.flows c.show.new.flows i.same e.same;
      worked = e.worked old (number_at old) (forward_ground s surface old changed k c.loop-at.flows (get_or changed k 0) z i.grounded within same (number_at old)) i.worked;
      grounded = grounded_more s surface old changed k c.loop-at.flows.cells c.show.new.flows.cells (get_or changed k 0) z i.grounded i.worked.count within refl same e.cells;
      copied = λ flow h. e.copied old flow (forward_ground s surface old changed k c.loop-at.flows (get_or changed k 0) z i.grounded within same flow) (i.copied flow h);
      more = omega (arith, i.more, e.more);
      rises = rises_on (copies c.args.flows.now.copied) (copies c.loop-at.flows.copied) (copies c.show.new.flows.copied) (4 * k) 4 (4 * (k + 1)) _ _ _ i.more e.more (omega arith) i.rises (one_pick _ _ _ _ c.cell.ensures.pick e.tally);
    }
