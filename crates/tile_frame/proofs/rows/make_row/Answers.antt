use Rattle.std.proofs.Common.{◌<◌, arith, refl}
use Rattle.layer_tiles.specs.Tiles.{tile_width}
use Rattle.tile_frame.proofs.Framing.{first_wide}
use Rattle.tile_frame.proofs.rows.make_row.Goals as goal

pub returns-then-end-place : goal.returns-then-end-place
returns-then-end-place g c =
    let place = c.place-place.ensures.place in
    let within : c.make_cells-end.result < tile_width c.args.extent c.args.tile = omega (arith, c.if-end-place.true, place.width) in
    first_wide (g.R.RowMaker.value c.args.row.now) c.args.extent c.args.tile c.args.r c.make_cells-end.result _ c.make_cells-end.ensures.made.in_range within (rw (place.top, place.left, c.columns.ensures.columns) refl) (c.make_cells-end.ensures.wide c.if-end-place.true)
