use Rattle.std.proofs.Common.{◌+◌, ◌*◌, ◌∙◌, arith}
use Rattle.layer_tiles.specs.Tiles.{tiles_across}
use Rattle.grid_text.proofs.RowTexts.{next_row}
use Rattle.layer_tiles.proofs.RowLooks.{then_rises}
use Rattle.grid_text.proofs.print.put_rows.Goals as goal

pub loop-r-preserved : goal.loop-r-preserved
loop-r-preserved g c =
    let layer = c.args.layer.now in
    let across = tiles_across layer.size in
    record {
      rows =
          next_row c.args.text.now.items c.loop-r.text.items c.put_row.new.text.items layer.size layer.cells c.loop-r.r c.loop-r.invariant.rows c.in_ok-put_row.ensures.row;
      looks =
          then_rises (c.loop-r.r * across) across ((c.loop-r.r + 1) * across) _ _ _ c.loop-r.invariant.looks c.in_ok-put_row.ensures.looks (omega arith);
    }
