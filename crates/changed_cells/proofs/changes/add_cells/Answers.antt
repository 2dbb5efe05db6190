use Rattle.std.proofs.Common.{◌+◌, ◌*◌, arith}
use Rattle.changed_cells.proofs.Ordering.{row_begun, row_step, row_end, start_is}
use Rattle.changed_cells.proofs.changes.add_cells.Goals as goal

pub loop-c-init : goal.loop-c-init
loop-c-init c = row_begun c.args.extent c.args.tile c.args.r c.args.before.now c.args.after.now c.args.found.now.items

pub loop-c-preserved : goal.loop-c-preserved
loop-c-preserved c =
    let s = c.args.extent in
    let p = c.place-place.ensures.place in
    row_step s c.args.tile c.args.r c.loop-c.c c.place-place.ensures.size c.requires.within c.requires.row (omega (arith, c.loop-c-test.true, p.width)) c.args.before.now c.args.after.now c.args.found.now.items c.loop-c.found.items c.loop-c.invariant
    ((c.place-place.result.top + c.args.r) * c.columns.result + c.place-place.result.left + c.loop-c.c) c.index-before-c.result c.index-after-c.result c.add_place.new.found.items
    (start_is s c.args.tile c.args.r c.loop-c.c c.place-place.result c.columns.result p c.columns.ensures.columns) c.index-before-c.is c.index-after-c.is c.in_ok-add_place.ensures

pub returns : goal.returns
returns c =
    let p = c.place-place.ensures.place in
    let d = c.place-place.ensures.placed in
    row_end c.args.extent c.args.tile c.args.r c.loop-c.c c.place-place.ensures.size c.requires.within (omega (arith, c.requires.row, d.most_rows)) (omega (arith, c.loop-c-test.false, p.width)) c.args.before.now c.args.after.now c.args.found.now.items c.loop-c.found.items (omega (arith, c.loop-c.auto.c-end, p.width, d.most_columns)) c.loop-c.invariant
