use Rattle.near_cells.proofs.Adding.{rows_more}
use Rattle.near_cells.proofs.near.NearCells.filled.Goals as goal

pub loop-r-preserved : goal.loop-r-preserved
loop-r-preserved c = rows_more c.args.extent c.args.window.now.cells c.args.tile c.args.reach c.loop-r.r c.loop-r.cells.items c.add_row.new.cells.items c.loop-r.invariant c.in_ok-add_row.ensures
