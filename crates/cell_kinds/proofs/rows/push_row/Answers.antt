use Rattle.std.proofs.Common.{◌+◌, ◌*◌, ◌/◌, ◌%◌, ◌<◌, ◌++◌, take, drop, ap, sym, subst, ◌∙◌, arith}
use Rattle.layer_tiles.specs.Tiles.{Block, tiles_across}
use Rattle.layer_tiles.proofs.RowsOfTiles.{crosses, behind_more, row_whole}
use Rattle.layer_tiles.proofs.RowLooks.{then_looks}
use Rattle.cell_kinds.proofs.rows.push_row.Goals as goal

pub row-requires : goal.row-requires
row-requires g c =
    let layer = c.args.layer.now in
    subst (λ (b : Block). c.args.r % 32 < b.height) (sym c.crossed_tile-tile.ensures.tile)
    (crosses layer.size c.args.r c.loop-k.k c.requires (omega (arith, c.loop-k-test.true, c.tiles_across-across.ensures.across, ap tiles_across c.extent.ensures.extent))).row

pub loop-k-preserved : goal.loop-k-preserved
loop-k-preserved g c =
    let layer = c.args.layer.now in
    let tile = crosses layer.size c.args.r c.loop-k.k c.requires (omega (arith, c.loop-k-test.true, c.tiles_across-across.ensures.across, ap tiles_across c.extent.ensures.extent)) in
    record {
      row =
          behind_more c.args.cells.now.items c.loop-k.cells.items c.extend_from_slice.new.self.items c.row.result.now layer.size layer.cells c.args.r c.loop-k.k (c.args.r / 32 * tiles_across layer.size + c.loop-k.k) c.extent.ensures.layer.size c.extent.ensures.layer.cells tile
          c.loop-k.invariant.row c.in_ok-extend_from_slice.ensures.items
          (c.row.ensures.row ∙ ap (λ (b : Block). take b.width (drop (c.args.r % 32 * b.width) b.cells)) c.crossed_tile-tile.ensures.tile);
      looks = then_looks c.loop-k.k _ _ _ c.loop-k.invariant.looks c.crossed_tile-tile.ensures.look;
    }

pub returns-clause-row : goal.returns-clause-row
returns-clause-row g c =
    c.loop-k.invariant.row
    ∙ ap (λ l. c.args.cells.now.items ++ l) (row_whole c.args.layer.now.size c.args.layer.now.cells c.args.r c.loop-k.k
    (omega (arith, c.loop-k-test.false, c.loop-k.auto.k-end) ∙ c.tiles_across-across.ensures.across ∙ ap tiles_across c.extent.ensures.extent))
