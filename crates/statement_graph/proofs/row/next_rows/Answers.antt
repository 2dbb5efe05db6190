use Rattle.std.proofs.Common.{◌≡◌, ◌+◌, ◌≤◌, ℕ, false, None, length, take, set, get_or, ap, subst, ◌∙◌, arith, length-append}
use Rattle.std.proofs.lemmas.List.{length-map}
use Rattle.statement_graph.specs.declared.row.Row.{Row}
use Rattle.statement_graph.specs.Firsts.{IsFirst}
use Rattle.statement_graph.specs.Links.{all_needs}
use Rattle.statement_graph.specs.Seats.{node_at, nodes_at}
use Rattle.statement_graph.specs.Tables.{shown_all}
use Rattle.statement_graph.proofs.Linking.{needs_more, needs_fit}
use Rattle.statement_graph.proofs.Rounds.{next_step, next_copied}
use Rattle.statement_graph.proofs.row.next_rows.Goals as goal
use Rattle.statement_graph.proofs.row.next_rows.Goals.{then-first-at, else-first-at}

pub overflow_add-start : goal.overflow_add-start
overflow_add-start c =
    let fit = needs_fit c.args.entries.now c.loop-at.at c.index-entries-at.result c.needs.result.now c.loop-at-test.true c.index-entries-at.is c.needs.ensures in
    let starts = c.loop-at.invariant.starts in
    let room = c.requires.room.needs in
    omega arith

pub loop-at-preserved : goal.loop-at-preserved
loop-at-preserved c =
    let es = c.args.entries.now in
    let at = c.loop-at.at in
    let before = all_needs (take at (nodes_at es)) in
    let more : length (all_needs (take (at + 1) (nodes_at es))) ≡ length before + length c.needs.result.now =
    ap length (needs_more es at c.index-entries-at.result c.needs.result.now c.loop-at-test.true c.index-entries-at.is c.needs.ensures) ∙ length-append before c.needs.result.now in
    let starts = c.loop-at.invariant.starts in
    let first = get_or c.args.firsts.now at 0 in
    let len = c.loop-at.auto.next in
    let next_are = c.requires.next_are in
    let count : length (nodes_at es) ≡ length es = length-map es node_at in
    let is = c.requires.linked.places at (omega arith) in
    let first_le : first ≤ at = is.1 in
    record {
      starts = omega arith;
      table = λ k table.
          elim c.if-first-at.branch [
            | then-first-at w ↦ ap (λ (row : Row). shown_all (nodes_at es) (take (at + 1) (set c.loop-at.next at row))) w.next-is
                ∙ next_copied es c.args.name.now k c.loop-at.next at first (record { depth = 0; lack = None; reached = false }) c.loop-at-test.true (omega arith) w.if-first-at.true is.0 (c.loop-at.invariant.table k table)
            | else-first-at w ↦ (let same : first ≡ at = omega arith in
                ap (λ (row : Row). shown_all (nodes_at es) (take (at + 1) (set c.loop-at.next at row))) w.next-is
                ∙ next_step es c.args.rows.now c.args.name.now k c.loop-at.next at w.row_of.result c.loop-at-test.true (omega arith) (subst (λ (i : ℕ). IsFirst (nodes_at es) at i) same is.0) w.row_of.ensures table (c.loop-at.invariant.table k table))
          ];
    }
