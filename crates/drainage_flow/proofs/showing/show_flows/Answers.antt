use Rattle.std.proofs.Common.{◌≡◌, ◌+◌, ◌*◌, pos, get_or, arith}
use mir.Syntax.{w128}
use mir.Val.{to_z, of_z}
use Rattle.std.proofs.lemmas.Int.{to_z-of_z}
use Rattle.std.proofs.lemmas.Result.{err_from_is_err_and}
use Rattle.tile_work.specs.Working.{copies}
use Rattle.drainage_flow.proofs.Shown.{forward_put, flows_next, worked_few, same_then, rises_on, value_wide}
use Rattle.drainage_flow.proofs.showing.show_flows.Goals as goal

pub show-requires-clause-few : goal.show-requires-clause-few
show-requires-clause-few g c = worked_few c.args.surface.now.size c.args.old.now.cells c.loop-put.flows c.loop-put.worked c.extent-tiles.ensures.size c.loop-put.invariant.worked

pub returns-in_err-worked-clause-copied : goal.returns-in_err-worked-clause-copied
returns-in_err-worked-clause-copied g c = λ flow p h.
    let puts = c.args.puts.now in
    let k = c.loop-put.put-index in
    let z = to_z w128 (of_z w128 (get_or puts k (0, pos 0)).1) in
    let is : z ≡ (get_or puts k (0, pos 0)).1 = to_z-of_z w128 (get_or puts k (0, pos 0)).1 (value_wide (get_or puts k (0, pos 0)).1 (c.requires.in_range k (0, pos 0) c.loop-put-test.true)) in
    c.in_err-worked.ensures.copied c.args.old.now.cells flow (forward_put c.args.surface.now.size c.args.surface.now.cells c.args.old.now.cells puts k (0, pos 0) z c.loop-put.flows flow is c.loop-put.invariant.cells p c.loop-put-test.true) (c.loop-put.invariant.copied flow p h)

pub returns-in_err-worked-clause-err : goal.returns-in_err-worked-clause-err
returns-in_err-worked-clause-err g c =
    let r = err_from_is_err_and c.from_residual.result c.from_residual.ensures.1 in
    let puts = c.args.puts.now in
    let k = c.loop-put.put-index in
    let z = to_z w128 (of_z w128 (get_or puts k (0, pos 0)).1) in
    let is : z ≡ (get_or puts k (0, pos 0)).1 = to_z-of_z w128 (get_or puts k (0, pos 0)).1 (value_wide (get_or puts k (0, pos 0)).1 (c.requires.in_range k (0, pos 0) c.loop-put-test.true)) in
    rw (r.1) (λ flow p. ((get_or puts k (0, pos 0)).0, c.requires.within k (0, pos 0) c.loop-put-test.true, (forward_put c.args.surface.now.size c.args.surface.now.cells c.args.old.now.cells puts k (0, pos 0) z c.loop-put.flows flow is c.loop-put.invariant.cells p c.loop-put-test.true).changes c.in_err-worked.ensures.err))

pub loop-put-preserved : goal.loop-put-preserved
loop-put-preserved g c =
    let s = c.args.surface.now.size in
    let surface = c.args.surface.now.cells in
    let old = c.args.old.now.cells in
    let puts = c.args.puts.now in
    let k = c.loop-put.put-index in
    let i = c.loop-put.invariant in
    let z = to_z w128 (of_z w128 (get_or puts k (0, pos 0)).1) in
    let is : z ≡ (get_or puts k (0, pos 0)).1 = to_z-of_z w128 (get_or puts k (0, pos 0)).1 (value_wide (get_or puts k (0, pos 0)).1 (c.requires.in_range k (0, pos 0) c.loop-put-test.true)) in
    record {
      same = same_then c.args.flows.now c.loop-put.flows c.show.new.flows i.same c.in_ok-worked.ensures.same;
      worked = c.in_ok-worked.ensures.worked old c.requires.flow.0 (forward_put s surface old puts k (0, pos 0) z c.loop-put.flows c.requires.flow.0 is i.cells c.requires.flow.1 c.loop-put-test.true) i.worked;
      cells = flows_next s surface old puts k (0, pos 0) z c.loop-put.flows.cells c.show.new.flows.cells is i.cells i.worked.count (c.requires.within k (0, pos 0) c.loop-put-test.true) c.loop-put-test.true c.in_ok-worked.ensures.cells;
      copied = λ flow p h. c.in_ok-worked.ensures.copied old flow (forward_put s surface old puts k (0, pos 0) z c.loop-put.flows flow is i.cells p c.loop-put-test.true) (i.copied flow p h);
      more = omega (arith, i.more, c.in_ok-worked.ensures.more);
      rises = rises_on (copies c.args.flows.now.copied) (copies c.loop-put.flows.copied) (copies c.show.new.flows.copied) (3 * k) 3 (3 * (k + 1)) _ _ _ i.more c.in_ok-worked.ensures.more (omega arith) i.rises c.in_ok-worked.ensures.tally;
    }
