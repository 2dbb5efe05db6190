use Rattle.std.proofs.Common.{arith}
use Rattle.region_labels.proofs.Seams.{step_then, rows_more}
use Rattle.region_labels.proofs.joins.join_row.Goals as goal

pub loop-column-preserved : goal.loop-column-preserved
loop-column-preserved c =
    let s = c.args.extent in
    let cells = c.args.cells.now in
    let old = c.loop-column.labels in
    let new = c.join_above.new.labels in
    let step = c.join_above.ensures.step in
    record {
      step = step_then s cells c.args.labels.now old new c.loop-column.invariant.step step;
      tied = rows_more s cells old new c.args.row c.loop-column.column step c.loop-column.invariant.tied c.join_above.ensures.tied;
    }

pub returns-clause-tied : goal.returns-clause-tied
returns-clause-tied c = λ k l. c.loop-column.invariant.tied k (omega (arith, l, c.loop-column-test.false, c.columns-column-end.ensures.columns, c.loop-column.auto.column-end))
