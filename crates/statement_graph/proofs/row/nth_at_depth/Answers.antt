use Rattle.std.proofs.Common.{◌+◌, ◌++◌, ◌∷◌, [], filter, drop, option_map, option_copied, slice_get, None, false, ap, sym, ◌∙◌, arith}
use Rattle.std.proofs.lemmas.List.{append-nil}
use Rattle.std.proofs.lemmas.Option.{slice_get-get_or}
use Rattle.statement_graph.specs.Puts.{flat_node}
use Rattle.statement_graph.specs.Seats.{nodes_at}
use Rattle.statement_graph.specs.Walks.{is_at_depth, at_depth}
use Rattle.statement_graph.proofs.Walking.{goes_past, comes_next, slice_get_tail}
use Rattle.statement_graph.proofs.row.nth_at_depth.Goals as goal

pub loop-at-preserved-in_default : goal.loop-at-preserved-in_default
loop-at-preserved-in_default c =
    let got = slice_get-get_or c.args.rows.now c.loop-at.at (record { depth = 0; lack = None; reached = false }) (omega (arith, c.requires.rows_are)) in
    let past = goes_past c.args.entries.now c.args.rows.now c.args.depth c.loop-at.at c.index-entries-at.result _ c.loop-at-test.true c.index-entries-at.is got c.requires.table
    (option_map flat_node (option_copied c.flat_at.result)) c.flat_at.ensures (ap (λ r. option_map flat_node (option_copied r)) c.in_default.is) in
    λ rest. c.loop-at.invariant rest ∙ ap (λ l. slice_get (l ++ rest) c.loop-at.left) past

pub returns-then-left-eq0 : goal.returns-then-left-eq0
returns-then-left-eq0 c =
    let got = slice_get-get_or c.args.rows.now c.loop-at.at (record { depth = 0; lack = None; reached = false }) (omega (arith, c.requires.rows_are)) in
    let next = comes_next c.args.entries.now c.args.rows.now c.args.depth c.loop-at.at c.index-entries-at.result _ c.loop-at-test.true c.index-entries-at.is got c.requires.table
    (option_map flat_node (option_copied c.flat_at.result)) (flat_node c.in-Some.node.now) c.flat_at.ensures (ap (λ r. option_map flat_node (option_copied r)) c.in-Some.is) in
    sym (ap (λ l. slice_get l c.args.place) (append-nil (at_depth (nodes_at c.args.entries.now) c.args.depth))) ∙ c.loop-at.invariant []
    ∙ ap (λ l. slice_get (l ++ []) c.loop-at.left) next
    ∙ ap (slice_get ((flat_node c.in-Some.node.now ∷ filter (is_at_depth (nodes_at c.args.entries.now) c.args.depth) (drop (c.loop-at.at + 1) (nodes_at c.args.entries.now))) ++ [])) c.if-left-eq0.true

pub loop-at-preserved : goal.loop-at-preserved
loop-at-preserved c =
    let got = slice_get-get_or c.args.rows.now c.loop-at.at (record { depth = 0; lack = None; reached = false }) (omega (arith, c.requires.rows_are)) in
    let next = comes_next c.args.entries.now c.args.rows.now c.args.depth c.loop-at.at c.index-entries-at.result _ c.loop-at-test.true c.index-entries-at.is got c.requires.table
    (option_map flat_node (option_copied c.flat_at.result)) (flat_node c.in-Some.node.now) c.flat_at.ensures (ap (λ r. option_map flat_node (option_copied r)) c.in-Some.is) in
    λ rest. c.loop-at.invariant rest ∙ ap (λ l. slice_get (l ++ rest) c.loop-at.left) next
    ∙ slice_get_tail (flat_node c.in-Some.node.now) (filter (is_at_depth (nodes_at c.args.entries.now) c.args.depth) (drop (c.loop-at.at + 1) (nodes_at c.args.entries.now)) ++ rest) c.loop-at.left c.if-left-eq0.false
