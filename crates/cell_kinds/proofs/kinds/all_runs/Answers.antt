use Rattle.std.proofs.Common.{◌+◌, ◌*◌, arith}
use Rattle.layer_tiles.specs.Tiles.{tiles_across}
use Rattle.layer_tiles.proofs.RowsOfTiles.{rows_more}
use Rattle.layer_tiles.proofs.RowLooks.{then_rises}
use Rattle.cell_kinds.proofs.kinds.all_runs.Goals as goal

pub add_row-requires-clause-filled : goal.add_row-requires-clause-filled
add_row-requires-clause-filled g c = c.loop-r.invariant.runs.filled

pub loop-r-preserved : goal.loop-r-preserved
loop-r-preserved g c =
    let layer = c.args.layer.now in
    let across = tiles_across layer.size in
    let now = c.in_ok-add_row.ensures.runs in
    record {
      runs = record {
        filled = now.filled;
        expands = rows_more layer.size layer.cells _ _ c.loop-r.r c.loop-r.invariant.runs.expands now.expands;
      };
      looks = then_rises (c.loop-r.r * across) across ((c.loop-r.r + 1) * across) _ _ _ c.loop-r.invariant.looks c.in_ok-add_row.ensures.looks (omega arith);
    }
