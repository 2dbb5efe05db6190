use Rattle.std.proofs.Common.{◌≡◌, ◌^◌, length, arith, ap, ◌∙◌}
use Rattle.statement_graph.specs.Seats.{nodes_at}
use Rattle.statement_graph.specs.Tables.{table_at}
use Rattle.statement_graph.proofs.Rounds.{shallow_at}
use Rattle.statement_graph.proofs.Settling.{settled}
use Rattle.statement_graph.proofs.row.settle.Goals as goal

pub next_rows-requires-clause-shallow : goal.next_rows-requires-clause-shallow
next_rows-requires-clause-shallow c =
    shallow_at (nodes_at c.args.entries.now) c.args.name.now c.loop-round._round (2 ^ 32) c.loop-round.rows c.loop-round.invariant (omega (arith, c.requires.few))

pub returns-then-are_same : goal.returns-then-are_same
returns-then-are_same c =
    settled (nodes_at c.args.entries.now) c.args.name.now c.loop-round._round (length c.args.entries.now) c.loop-round.rows c.next_rows.new.next (omega arith) c.loop-round.invariant
    (c.next_rows.ensures c.loop-round._round c.loop-round.invariant) c.if-are_same.ensures

pub returns : goal.returns
returns c =
    let done : c.loop-round._round ≡ length c.args.entries.now = omega (arith, c.loop-round.auto._round-end) in
    c.loop-round.invariant ∙ ap (λ k. table_at k (nodes_at c.args.entries.now) c.args.name.now) done
