use Rattle.std.proofs.Common.{arith}
use Rattle.changed_cells.proofs.Ordering.{row_equal}
use Rattle.changed_cells.proofs.changes.add_row.Goals as goal

pub returns-then-same_cells : goal.returns-then-same_cells
returns-then-same_cells c =
    let d = c.place-placed.ensures.placed in
    row_equal c.args.extent c.args.tile c.args.r c.place-placed.ensures.size c.requires.within c.requires.row (omega (arith, c.requires.row, d.most_rows)) d.most_columns c.args.before.now c.args.after.now c.args.found.now.items c.requires.before (c.same_cells.ensures.0 c.if-same_cells.true)
