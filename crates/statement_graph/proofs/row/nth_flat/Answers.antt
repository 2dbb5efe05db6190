use Rattle.std.proofs.Common.{◌+◌, ◌-◌, ap, sym, ◌∙◌, flat_map, length, slice_get}
use Rattle.std.specs.List.{range_with_len}
use Rattle.statement_graph.specs.Puts.{flat_node}
use Rattle.statement_graph.specs.Seats.{nodes_at}
use Rattle.statement_graph.specs.Walks.{at_depth}
use Rattle.statement_graph.proofs.Walking.{by_depth_at, next_depth, no_depth, slice_get-append}
use Rattle.statement_graph.proofs.row.nth_flat.Goals as goal

pub returns-in-Found : goal.returns-in-Found
returns-in-Found c =
    let f = at_depth (nodes_at c.args.entries.now) in
    let n = length c.args.entries.now in
    sym (slice_get-append (f (c.loop-above.above + 1)) (flat_map f (range_with_len (c.loop-above.above + 1 + 1) (n - (c.loop-above.above + 1)))) c.loop-above.left (flat_node c.in-Found.node.now) c.in-Found.ensures)
    ∙ sym (ap (λ l. slice_get l c.loop-above.left) (next_depth f n c.loop-above.above c.loop-above-test.true)) ∙ sym c.loop-above.invariant ∙ by_depth_at c.args.entries.now c.args.place

pub loop-above-preserved : goal.loop-above-preserved
loop-above-preserved c =
    let f = at_depth (nodes_at c.args.entries.now) in
    let n = length c.args.entries.now in
    c.loop-above.invariant ∙ ap (λ l. slice_get l c.loop-above.left) (next_depth f n c.loop-above.above c.loop-above-test.true)
    ∙ c.in-Left.ensures (flat_map f (range_with_len (c.loop-above.above + 1 + 1) (n - (c.loop-above.above + 1))))

pub returns : goal.returns
returns c =
    sym (no_depth (at_depth (nodes_at c.args.entries.now)) (length c.args.entries.now) c.loop-above.above c.loop-above.left c.loop-above-test.false)
    ∙ sym c.loop-above.invariant ∙ by_depth_at c.args.entries.now c.args.place
