use Rattle.std.proofs.Common.{◌+◌, length, sym, ◌∙◌, ap, arith}
use Rattle.map_nums.specs.Grids.{Cells, cells_in}
use Rattle.layer_tiles.proofs.Rising.{rises_none, rises_within}
use Rattle.drainage_flow.specs.Mending.{now_at}
use Rattle.drainage_flow.specs.Settling.{number_at}
use Rattle.drainage_flow.specs.Showing.{shown_at, changes}
use Rattle.drainage_flow.proofs.Shown.{grounded_all, worked_few}
use Rattle.drainage_flow.proofs.Written.{begins, begun_worked, copied_none, grounds_wanted, flows_wanted, flows_written, cells_shown, patch_shown}
use Rattle.drainage_flow.proofs.repairs.write_flow.Goals as goal

pub new-requires : goal.new-requires
new-requires g c = (c.extent-base.ensures.layer, c.requires.base_size ∙ sym c.extent.ensures.extent)

pub returns-in_err-flows-clause-tally : goal.returns-in_err-flows-clause-tally
returns-in_err-flows-clause-tally g c = λ flow p. rises_within 0 0 _ _ _ _ (omega arith) (omega arith) (rises_none _)

pub show_grounds-requires-clause-begun : goal.show_grounds-requires-clause-begun
show_grounds-requires-clause-begun g c =
    let s = c.args.surface.now.size in
    begun_worked s c.extent.result c.args.base.now.cells c.in_ok-flows.flows c.extent.ensures.extent (c.extent-base.ensures.layer.cells ∙ ap cells_in c.requires.base_size) c.in_ok-flows.ensures.size c.in_ok-flows.ensures.before c.in_ok-flows.ensures.cells

pub show_grounds-requires-clause-cells : goal.show_grounds-requires-clause-cells
show_grounds-requires-clause-cells g c = begins c.args.surface.now.size c.extent.result c.args.base.now.cells c.in_ok-flows.flows.cells c.extent.ensures.extent (c.extent-base.ensures.layer.cells ∙ ap cells_in c.requires.base_size) c.in_ok-flows.ensures.cells

pub returns-in_err-begun-clause-tally : goal.returns-in_err-begun-clause-tally
returns-in_err-begun-clause-tally g c = λ flow p.
    let s = c.args.surface.now.size in
    let surface = c.args.surface.now.cells in
    let old = c.args.base.now.cells in
    let was = c.in_ok-flows.flows in
    let mid = c.show_grounds.new.flows in
    let e = c.in_err-begun.ensures.err in
    let none = c.in_ok-flows.ensures.copied in
    grounds_wanted s surface old flow c.extent.ensures.size was mid mid none (length c.args.changed.now) (length c.args.puts.now) _ _ (g.M.Tally.counts c.args.tally.now) (c.show_grounds.ensures.copied flow (copied_none s surface old flow c.extent.ensures.size was none)) e.0 e.1 (e.2 flow) c.in_err-begun.ensures.wanted

pub show_flows-requires-clause-worked : goal.show_flows-requires-clause-worked
show_flows-requires-clause-worked g c = c.in_ok-begun.ensures.worked

pub show_flows-requires-clause-grounded : goal.show_flows-requires-clause-grounded
show_flows-requires-clause-grounded g c = grounded_all c.args.surface.now.size c.args.surface.now.cells c.args.base.now.cells c.args.changed.now c.show_grounds.new.flows.cells c.in_ok-begun.ensures.grounded c.requires.listed

pub show_flows-requires-clause-flow : goal.show_flows-requires-clause-flow
show_flows-requires-clause-flow g c = c.requires.placed

pub returns-in_err-shown-clause-tally : goal.returns-in_err-shown-clause-tally
returns-in_err-shown-clause-tally g c = λ flow p.
    let s = c.args.surface.now.size in
    let surface = c.args.surface.now.cells in
    let old = c.args.base.now.cells in
    let was = c.in_ok-flows.flows in
    let mid = c.show_grounds.new.flows in
    let now = c.show_flows.new.flows in
    let e = c.in_err-shown.ensures.err flow p in
    let none = c.in_ok-flows.ensures.copied in
    let size = c.extent.ensures.size in
    let k = c.show_flows.ensures.copied flow p (c.show_grounds.ensures.copied flow (copied_none s surface old flow size was none)) in
    flows_wanted s surface old flow size was mid now none (length c.args.changed.now) (length c.args.puts.now) _ _ _ c.show_flows.ensures.more k e.0 e.1 e.2 c.in_ok-begun.ensures.tally c.in_err-shown.ensures.wanted

pub returns-in_err-patch-clause-tally : goal.returns-in_err-patch-clause-tally
returns-in_err-patch-clause-tally g c = λ flow p.
    let s = c.args.surface.now.size in
    let surface = c.args.surface.now.cells in
    let old = c.args.base.now.cells in
    let was = c.in_ok-flows.flows in
    let mid = c.show_grounds.new.flows in
    let now = c.show_flows.new.flows in
    let none = c.in_ok-flows.ensures.copied in
    let size = c.extent.ensures.size in
    let k = c.show_flows.ensures.copied flow p (c.show_grounds.ensures.copied flow (copied_none s surface old flow size was none)) in
    flows_written s surface old flow size was mid now none (length c.args.changed.now) (length c.args.puts.now) _ _ _ _ c.show_flows.ensures.more k c.in_ok-begun.ensures.tally c.in_ok-shown.ensures.tally c.into_patch.ensures.looks

pub overflow_add-result : goal.overflow_add-result
overflow_add-result g c = omega (arith, worked_few c.args.surface.now.size c.args.base.now.cells c.show_flows.new.flows c.in_ok-shown.shown c.extent.ensures.size c.in_ok-shown.ensures.worked, c.requires.few, c.extent.ensures.size.most_cells)

pub returns-clause-size : goal.returns-clause-size
returns-clause-size g c = c.in_ok-patch.ensures.size ∙ c.in_ok-shown.ensures.worked.size

pub returns-clause-patch : goal.returns-clause-patch
returns-clause-patch g c =
    let w = c.in_ok-shown.ensures.worked in
    patch_shown c.args.surface.now.size c.args.base.now.cells (shown_at c.args.surface.now.cells (now_at (number_at c.args.base.now.cells) c.args.puts.now)) c.show_flows.new.flows c.in_ok-patch.patch.tiles w.size w.before w.count c.in_ok-shown.ensures.cells c.in_ok-patch.ensures.patch

pub returns-clause-worked : goal.returns-clause-worked
returns-clause-worked g c =
    let w = c.in_ok-shown.ensures.worked in
    let s = c.args.surface.now.size in
    let old = c.args.base.now.cells in
    let e = cells_shown s (shown_at c.args.surface.now.cells (now_at (number_at old) c.args.puts.now)) c.show_flows.new.flows.cells w.count c.in_ok-shown.ensures.cells in
    ap (λ k. length c.args.changed.now + k) (w.worked ∙ ap (λ (xs : Cells). changes s old xs) e)

pub returns-clause-tally : goal.returns-clause-tally
returns-clause-tally g c = λ flow p.
    let s = c.args.surface.now.size in
    let surface = c.args.surface.now.cells in
    let old = c.args.base.now.cells in
    let was = c.in_ok-flows.flows in
    let mid = c.show_grounds.new.flows in
    let now = c.show_flows.new.flows in
    let none = c.in_ok-flows.ensures.copied in
    let size = c.extent.ensures.size in
    let k = c.show_flows.ensures.copied flow p (c.show_grounds.ensures.copied flow (copied_none s surface old flow size was none)) in
    flows_written s surface old flow size was mid now none (length c.args.changed.now) (length c.args.puts.now) _ _ _ _ c.show_flows.ensures.more k c.in_ok-begun.ensures.tally c.in_ok-shown.ensures.tally c.into_patch.ensures.looks
