use Rattle.std.proofs.Common.{arith}
use Rattle.region_labels.proofs.Seams.{step_none, step_then, row_within, near_by, tied_by, tied_begun, tied_more, tied_above}
use Rattle.region_labels.proofs.joins.join_above.Goals as goal

pub loop-c-init : goal.loop-c-init
loop-c-init c =
    let s = c.args.extent in
    let size = c.columns-columns.ensures.size in
    let row_in = row_within s c.args.row c.args.column _ size c.requires.column c.requires.within c.requires.few in
    record {
      step = step_none s c.args.cells.now c.args.labels.now c.requires.provisional;
      tied = tied_begun s size c.args.row c.args.column c.requires.row row_in c.requires.column c.args.cells.now c.args.labels.now c.saturating_sub-low.result c.saturating_sub-low.ensures;
    }

pub join_pair-requires-clause-near : goal.join_pair-requires-clause-near
join_pair-requires-clause-near c =
    let s = c.args.extent in
    let size = c.columns-columns.ensures.size in
    let row_in = row_within s c.args.row c.args.column _ size c.requires.column c.requires.within c.requires.few in
    let high = c.min-high.ensures in
    near_by s size c.args.row c.args.column c.requires.row row_in c.requires.column c.columns-columns.result c.loop-c.c c.columns-columns.ensures.columns (omega (arith, c.loop-c-test.true, high)) (omega (arith, c.saturating_sub-low.ensures, c.loop-c.auto.c)) (omega (arith, c.loop-c-test.true, high))

pub loop-c-preserved : goal.loop-c-preserved
loop-c-preserved c =
    let s = c.args.extent in
    let cells = c.args.cells.now in
    let size = c.columns-columns.ensures.size in
    let row_in = row_within s c.args.row c.args.column _ size c.requires.column c.requires.within c.requires.few in
    let old = c.loop-c.labels in
    let new = c.join_pair.new.labels in
    let step = c.join_pair.ensures.step in
    let columns = c.columns-columns.ensures.columns in
    record {
      step = step_then s cells c.args.labels.now old new c.loop-c.invariant.step step;
      tied = tied_more s size c.args.row c.args.column c.requires.row row_in c.requires.column cells old new c.loop-c.c (omega (arith, c.loop-c-test.true, c.min-high.ensures, columns)) step
          (tied_by s size c.args.row c.args.column c.requires.row row_in c.requires.column cells new c.columns-columns.result c.loop-c.c columns c.join_pair.ensures.tied) c.loop-c.invariant.tied;
    }

pub returns-clause-tied : goal.returns-clause-tied
returns-clause-tied c =
    let s = c.args.extent in
    let size = c.columns-columns.ensures.size in
    let row_in = row_within s c.args.row c.args.column _ size c.requires.column c.requires.within c.requires.few in
    tied_above s size c.args.row c.args.column c.requires.row row_in c.requires.column c.args.cells.now c.loop-c.labels c.loop-c.c (omega (arith, c.loop-c-test.false, c.min-high.ensures, c.columns-columns.ensures.columns)) c.loop-c.invariant.tied
