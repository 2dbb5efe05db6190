use Rattle.std.proofs.Common.{◌≡◌, ◌<◌, ◌∙◌, ap, arith, length}
use Rattle.layer_tiles.specs.Tiles.{Block, tile_height, tile_width, block_row}
use Rattle.flat_cells.proofs.Copying.{start_is, row_fits, row_more, rows_all}
use Rattle.flat_cells.proofs.copies.put_tile.Goals as goal

pub slice_bounds-copy_from_slice-end : goal.slice_bounds-copy_from_slice-end
slice_bounds-copy_from_slice-end g c =
    let s = c.args.of.now.size in
    let t = c.args.tile in
    let start = start_is s c.extent-extent.result t c.loop-r.r c.columns-columns.result c.place-place.result c.extent-extent.ensures.extent c.place-place.ensures.place c.columns-columns.ensures.columns in
    let row : c.loop-r.r < tile_height s t = omega (arith, c.loop-r-test.true, c.height-r-end.ensures.height, ap (λ (b : Block). b.height) c.view-view.ensures.tile) in
    let width : length c.row-row.result.now ≡ tile_width s t = c.row-row.ensures.width ∙ ap (λ (b : Block). b.width) c.view-view.ensures.tile in
    omega (arith, start, width, row_fits s c.args.of.now.cells t c.extent-extent.ensures.size c.requires.within c.loop-r.r row, c.loop-r.invariant.tiles.count)

pub loop-r-preserved : goal.loop-r-preserved
loop-r-preserved g c =
    let s = c.args.of.now.size in
    let t = c.args.tile in
    let start = start_is s c.extent-extent.result t c.loop-r.r c.columns-columns.result c.place-place.result c.extent-extent.ensures.extent c.place-place.ensures.place c.columns-columns.ensures.columns in
    let row : c.loop-r.r < tile_height s t = omega (arith, c.loop-r-test.true, c.height-r-end.ensures.height, ap (λ (b : Block). b.height) c.view-view.ensures.tile) in
    let width : length c.row-row.result.now ≡ tile_width s t = c.row-row.ensures.width ∙ ap (λ (b : Block). b.width) c.view-view.ensures.tile in
    rw (c.copy_from_slice.ensures.after)
    (row_more s c.args.of.now.cells t c.extent-extent.ensures.size c.requires.within c.loop-r.r _ _ c.loop-r.cells c.row-row.result.now row start (omega (arith, width)) (c.row-row.ensures.row ∙ ap (λ (b : Block). block_row b c.loop-r.r) c.view-view.ensures.tile) width c.loop-r.invariant)

pub returns-clause-tiles : goal.returns-clause-tiles
returns-clause-tiles g c = rows_all c.args.of.now.size c.args.of.now.cells c.args.tile c.extent-extent.ensures.size c.requires.within c.loop-r.r c.loop-r.cells (omega (arith, c.loop-r-test.false, c.height-r-end.ensures.height, ap (λ (b : Block). b.height) c.view-view.ensures.tile)) c.loop-r.invariant
