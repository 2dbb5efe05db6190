use Rattle.std.proofs.Common.{◌+◌, ◌*◌, ◌/◌, ◌%◌, ◌<◌, ◌++◌, take, drop, ap, sym, subst, ◌∙◌, arith}
use Rattle.layer_tiles.specs.Tiles.{Block, tiles_across}
use Rattle.cell_kinds.specs.Expanded.{expanded}
use Rattle.layer_tiles.proofs.RowsOfTiles.{crosses, behind_more, row_whole}
use Rattle.layer_tiles.proofs.RowLooks.{then_looks}
use Rattle.cell_kinds.proofs.kinds.add_row.Goals as goal

pub row-requires : goal.row-requires
row-requires g c =
    subst (λ (b : Block). c.args.r % 32 < b.height) (sym c.crossed_tile-tile.ensures.tile)
    (crosses c.args.layer.now.size c.args.r c.loop-k.k c.requires.row (omega (arith, c.loop-k-test.true, c.tiles_across-across.ensures.across, ap tiles_across c.extent.ensures.extent))).row

pub add_cells-requires-clause-filled : goal.add_cells-requires-clause-filled
add_cells-requires-clause-filled g c = c.loop-k.invariant.runs.filled

pub add_cells-requires-clause-few : goal.add_cells-requires-clause-few
add_cells-requires-clause-few g c =
    let tile = crosses c.args.layer.now.size c.args.r c.loop-k.k c.requires.row (omega (arith, c.loop-k-test.true, c.tiles_across-across.ensures.across, ap tiles_across c.extent.ensures.extent)) in
    omega (arith, c.row.ensures.width, ap (λ (b : Block). b.width) c.crossed_tile-tile.ensures.tile, tile.width)

pub loop-k-preserved : goal.loop-k-preserved
loop-k-preserved g c =
    let layer = c.args.layer.now in
    let tile = crosses layer.size c.args.r c.loop-k.k c.requires.row (omega (arith, c.loop-k-test.true, c.tiles_across-across.ensures.across, ap tiles_across c.extent.ensures.extent)) in
    let now = c.in_ok-add_cells.ensures in
    record {
      runs = record {
        filled = now.filled;
        expands =
            behind_more (expanded c.args.runs.now.items) (expanded c.loop-k.runs.items) (expanded c.add_cells.new.runs.items) c.row.result.now layer.size layer.cells c.args.r c.loop-k.k (c.args.r / 32 * tiles_across layer.size + c.loop-k.k) c.extent.ensures.layer.size c.extent.ensures.layer.cells tile
            c.loop-k.invariant.runs.expands now.expands
            (c.row.ensures.row ∙ ap (λ (b : Block). take b.width (drop (c.args.r % 32 * b.width) b.cells)) c.crossed_tile-tile.ensures.tile);
      };
      looks = then_looks c.loop-k.k _ _ _ c.loop-k.invariant.looks c.crossed_tile-tile.ensures.look;
    }

pub returns-clause-runs : goal.returns-clause-runs
returns-clause-runs g c = record {
  filled = c.loop-k.invariant.runs.filled;
  expands =
      c.loop-k.invariant.runs.expands
      ∙ ap (λ l. expanded c.args.runs.now.items ++ l) (row_whole c.args.layer.now.size c.args.layer.now.cells c.args.r c.loop-k.k
      (omega (arith, c.loop-k-test.false, c.loop-k.auto.k-end) ∙ c.tiles_across-across.ensures.across ∙ ap tiles_across c.extent.ensures.extent));
}
