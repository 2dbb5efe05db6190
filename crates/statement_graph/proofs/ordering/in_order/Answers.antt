use Rattle.std.proofs.Common.{◌+◌, ◌<◌, ◌≤◌, ◌++◌, length, min, ap, sym, ◌∙◌, arith}
use Rattle.std.proofs.lemmas.List.{append_assoc, append-nil}
use Rattle.statement_graph.specs.Seats.{nodes_at}
use Rattle.statement_graph.proofs.ByDepth.{listed, depths_left, deepest_of, all_left, depth_next, none_left}
use Rattle.statement_graph.proofs.ordering.in_order.Goals as goal

pub loop-above-preserved : goal.loop-above-preserved
loop-above-preserved c =
    let es = c.args.entries.now in
    let found = listed c.loop-above.found.items in
    let below : c.loop-above.above < length es = omega (arith, c.min-depths.ensures) in
    ap (λ l. l ++ depths_left c.args.wanted (nodes_at es) (length es) (c.loop-above.above + 1)) c.in_ok-push_depth.ensures
    ∙ append_assoc found _ (depths_left c.args.wanted (nodes_at es) (length es) (c.loop-above.above + 1))
    ∙ ap (λ l. found ++ l) (sym (depth_next c.args.wanted es c.loop-above.above below)) ∙ c.loop-above.invariant

pub returns : goal.returns
returns c =
    let es = c.args.entries.now in
    let found = listed c.loop-above.found.items in
    let end : min (length es) (deepest_of c.args.rows.now) ≤ c.loop-above.above = omega (arith, c.min-depths.ensures, c.deepest.ensures) in
    sym (append-nil found) ∙ ap (λ l. found ++ l) (sym (none_left c.args.wanted es c.args.rows.now c.loop-above.above c.requires.table end))
    ∙ c.loop-above.invariant ∙ all_left c.args.wanted es
