use Rattle.std.proofs.Common.{◌+◌, ◌*◌, ◌/◌, ◌%◌, ◌<◌, min, take, drop, refl, ap, sym, subst, ◌∙◌, ◌++◌, arith}
use Rattle.layer_tiles.specs.Tiles.{Block, tiles_across}
use Rattle.grid_text.specs.Blanks.{blanked}
use Rattle.layer_tiles.proofs.RowsOfTiles.{few_tiles, crosses_by, row-more, row_whole, row_some}
use Rattle.layer_tiles.proofs.RowLooks.{then_looks}
use Rattle.grid_text.proofs.Blanks.{next_piece, ended_line}
use Rattle.grid_text.proofs.print.put_row.Goals as goal

pub overflow_mul-first : goal.overflow_mul-first
overflow_mul-first g c =
    let few = few_tiles c.args.layer.now.size c.args.r c.tiles_across-across.result c.extent.ensures.layer.size c.requires (c.tiles_across-across.ensures.across ∙ ap tiles_across c.extent.ensures.extent) in
    omega (arith, few.0)

pub overflow_add-first : goal.overflow_add-first
overflow_add-first g c =
    let few = few_tiles c.args.layer.now.size c.args.r c.tiles_across-across.result c.extent.ensures.layer.size c.requires (c.tiles_across-across.ensures.across ∙ ap tiles_across c.extent.ensures.extent) in
    omega (arith, few.0, few.1, c.loop-k-test.true)

pub view-tile-requires : goal.view-tile-requires
view-tile-requires g c =
    (crosses_by c.args.layer.now.size c.args.r c.loop-k.k c.tiles_across-across.result (c.tiles_across-across.ensures.across ∙ ap tiles_across c.extent.ensures.extent) c.requires c.loop-k-test.true).within

pub row-requires : goal.row-requires
row-requires g c =
    subst (λ (b : Block). c.args.r % 32 < b.height) (sym c.view-tile.ensures.tile)
    (crosses_by c.args.layer.now.size c.args.r c.loop-k.k c.tiles_across-across.result (c.tiles_across-across.ensures.across ∙ ap tiles_across c.extent.ensures.extent) c.requires c.loop-k-test.true).row

pub loop-k-preserved : goal.loop-k-preserved
loop-k-preserved g c =
    let layer = c.args.layer.now in
    let before = take (min (32 * c.loop-k.k) layer.size.columns) (drop (c.args.r * layer.size.columns) layer.cells) in
    let after = take (min (32 * (c.loop-k.k + 1)) layer.size.columns) (drop (c.args.r * layer.size.columns) layer.cells) in
    let tile = crosses_by layer.size c.args.r c.loop-k.k c.tiles_across-across.result (c.tiles_across-across.ensures.across ∙ ap tiles_across c.extent.ensures.extent) c.requires c.loop-k-test.true in
    record {
      row =
          next_piece c.args.text.now.items c.loop-k.text.items c.put_cells.new.text.items before c.row.result.now after c.loop-k.invariant.row c.in_ok-put_cells.ensures
          (row-more layer.size layer.cells before c.row.result.now c.args.r c.loop-k.k (c.args.r / 32 * c.tiles_across-across.result + c.loop-k.k) c.extent.ensures.layer.size c.extent.ensures.layer.cells tile refl
          (c.row.ensures.row ∙ ap (λ (b : Block). take b.width (drop (c.args.r % 32 * b.width) b.cells)) c.view-tile.ensures.tile));
      looks = then_looks c.loop-k.k _ _ _ c.loop-k.invariant.looks c.view-tile.ensures.look;
    }

pub returns-clause-row : goal.returns-clause-row
returns-clause-row g c =
    let layer = c.args.layer.now in
    let row = take layer.size.columns (drop (c.args.r * layer.size.columns) layer.cells) in
    ended_line c.args.text.now.items c.loop-k.text.items c.end_line.new.text.items row
    (row_some layer.size layer.cells c.args.r c.extent.ensures.layer.size c.extent.ensures.layer.cells c.requires)
    (c.loop-k.invariant.row
    ∙ ap (λ cells. c.args.text.now.items ++ blanked cells)
    (row_whole layer.size layer.cells c.args.r c.loop-k.k
    (omega (arith, c.loop-k-test.false, c.loop-k.auto.k-end) ∙ c.tiles_across-across.ensures.across ∙ ap tiles_across c.extent.ensures.extent)))
    c.in_ok-end_line.ensures
