use Rattle.std.proofs.Common.{◌+◌, ◌++◌, ◌∷◌, [], option_map, option_copied, None, false, ap, sym, ◌∙◌, arith}
use Rattle.std.proofs.lemmas.List.{append_assoc}
use Rattle.std.proofs.lemmas.Option.{slice_get-get_or}
use Rattle.statement_graph.specs.Puts.{flat_node}
use Rattle.statement_graph.specs.Seats.{nodes_at}
use Rattle.statement_graph.specs.Walks.{is_at_depth}
use Rattle.statement_graph.specs.Wholes.{is_taken}
use Rattle.statement_graph.proofs.ByDepth.{listed, listed_push, passing, none_more, one_more}
use Rattle.statement_graph.proofs.ordering.push_depth.Goals as goal
use Rattle.statement_graph.proofs.ordering.push_depth.Goals.{in-Some+in_ok-push, in_default}

pub loop-at-preserved : goal.loop-at-preserved
loop-at-preserved c =
    let es = c.args.entries.now in
    let rest = passing (is_taken c.args.wanted (nodes_at es)) (is_at_depth (nodes_at es) c.args.depth) (nodes_at es) (c.loop-at.at + 1) in
    let got = slice_get-get_or c.args.rows.now c.loop-at.at (record { depth = 0; lack = None; reached = false }) (omega (arith, c.requires.rows_are)) in
    elim c.match-wanted_at.branch [
      | in-Some+in_ok-push w ↦ (let next = one_more c.args.wanted es c.args.rows.now c.args.depth c.loop-at.at c.index-entries-at.result _ c.loop-at-test.true c.index-entries-at.is got c.requires.table
          (option_map flat_node (option_copied c.wanted_at.result)) (flat_node w.in-Some.node.now) c.wanted_at.ensures (ap (λ r. option_map flat_node (option_copied r)) w.in-Some.is) in
          ap (λ l. l ++ rest) (ap (λ v. listed v.items) w.found-is ∙ listed_push c.loop-at.found.items w.push.new.self.items w.in-Some.node w.in_ok-push.ensures.items)
          ∙ append_assoc (listed c.loop-at.found.items) (flat_node w.in-Some.node.now ∷ []) rest
          ∙ ap (λ l. listed c.loop-at.found.items ++ l) (sym next) ∙ c.loop-at.invariant)
      | in_default w ↦ (let same = none_more c.args.wanted es c.args.rows.now c.args.depth c.loop-at.at c.index-entries-at.result _ c.loop-at-test.true c.index-entries-at.is got c.requires.table
          (option_map flat_node (option_copied c.wanted_at.result)) c.wanted_at.ensures (ap (λ r. option_map flat_node (option_copied r)) w.in_default.is) in
          ap (λ v. listed v.items ++ rest) w.found-is ∙ ap (λ l. listed c.loop-at.found.items ++ l) (sym same) ∙ c.loop-at.invariant)
    ]
