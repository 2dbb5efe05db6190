use Rattle.std.proofs.Common.{◌+◌, ◌*◌, arith}
use Rattle.layer_tiles.specs.Tiles.{tiles_across}
use Rattle.layer_tiles.proofs.RowsOfTiles.{rows_more}
use Rattle.layer_tiles.proofs.RowLooks.{then_rises}
use Rattle.cell_kinds.proofs.rows.all_cells.Goals as goal

pub loop-r-preserved : goal.loop-r-preserved
loop-r-preserved g c =
    let layer = c.args.layer.now in
    let across = tiles_across layer.size in
    record {
      cells = rows_more layer.size layer.cells c.loop-r.cells.items c.push_row.new.cells.items c.loop-r.r c.loop-r.invariant.cells c.in_ok-push_row.ensures.row;
      looks = then_rises (c.loop-r.r * across) across ((c.loop-r.r + 1) * across) _ _ _ c.loop-r.invariant.looks c.in_ok-push_row.ensures.looks (omega arith);
    }
