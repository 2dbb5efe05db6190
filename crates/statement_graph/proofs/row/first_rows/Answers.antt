use Rattle.std.proofs.Common.{◌≤◌, ◌<◌, length, get_or, None, ap, ◌∙◌, bytes_eq, arith}
use Rattle.statement_graph.proofs.Rounds.{first_step, first_row}
use Rattle.statement_graph.proofs.row.first_rows.Goals as goal

pub bounds-entries-firsts : goal.bounds-entries-firsts
bounds-entries-firsts c =
    let is = c.requires.firsts c.loop-at.at c.loop-at-test.true in
    let before : get_or c.args.firsts.now c.loop-at.at 0 ≤ c.loop-at.at = is.1 in
    omega arith

pub loop-at-preserved : goal.loop-at-preserved
loop-at-preserved c =
    let first = get_or c.args.firsts.now c.loop-at.at 0 in
    let is = c.requires.firsts c.loop-at.at c.loop-at-test.true in
    let before : first ≤ c.loop-at.at = is.1 in
    let within : first < length c.args.entries.now = omega arith in
    first_step c.args.entries.now c.loop-at.rows c.args.name.now c.loop-at.at first (record { depth = c.first_depth.result; lack = None; reached = c.eq.result })
    c.loop-at-test.true (omega (arith, c.loop-at.auto.rows, c.requires.rows_are)) within is.0
    (first_row c.args.entries.now c.args.name.now first c.index-entries-firsts.result c.first_depth.result c.eq.result within c.index-entries-firsts.is c.first_depth.ensures (c.eq.ensures ∙ ap (λ m. bytes_eq m c.args.name.now) c.name.ensures))
    c.loop-at.invariant
