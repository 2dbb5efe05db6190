use Rattle.std.proofs.Common.{◌≡◌, ◌<◌, ◌+◌, suc, None, sym, ◌∙◌, ap, arith}
use Rattle.std.proofs.lemmas.List.{get_or-take}
use Rattle.layer_tiles.specs.Tiles.{tile_height, tile_left, tile_top}
use Rattle.map_sample.specs.Grids.{cell_in, cells_of}
use Rattle.map_sample.proofs.RowByRow.{one_more, all_rows, cell_here}
use Rattle.map_sample.proofs.tile_rows.TileRows.tile.Goals as goal

pub loop-r-preserved : goal.loop-r-preserved
loop-r-preserved c =
    let s = c.args.self.now.extent in
    let grid = c.args.self.now.grid in
    let t = c.args.number in
    let r = c.loop-r.r in
    let place = c.place-place.result in
    let at = c.place-place.ensures.place in
    let low : r < tile_height s t = omega (arith, c.loop-r-test.true, at.height) in
    let row : place.top + r + 1 ≡ suc (tile_top s t + r) = omega (arith, at.top) in
    one_more s (cells_of s grid) _ t r c.loop-r.made c.set_row.new.self c.loop-r.invariant c.set_row.ensures
    (λ k l.
    let within : k < place.width = omega (arith, l, at.width) in
    let column : place.left + k + 1 ≡ suc (tile_left s t + k) = omega (arith, at.left) in
    get_or-take place.width c.put_row.new.cells k None within ∙ c.put_row.ensures k within
    ∙ ap (λ j. cell_in grid j (place.left + k + 1)) row ∙ ap (cell_in grid (suc (tile_top s t + r))) column
    ∙ sym (cell_here s grid t r k c.place-place.ensures.size c.requires low l))

pub returns : goal.returns
returns c =
    let s = c.args.self.now.extent in
    let at = c.place-place.ensures.place in
    all_rows s (cells_of s c.args.self.now.grid) c.args.number c.loop-r.r c.loop-r.made c.loop-r.invariant (omega (arith, c.loop-r-test.false, c.loop-r.auto.r-end, at.height))
