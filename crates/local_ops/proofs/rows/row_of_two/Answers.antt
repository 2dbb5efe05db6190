use Rattle.std.proofs.Common.{sym, ap, arith}
use Rattle.map_defs.specs.Local.{local_cell}
use Rattle.layer_tiles.specs.Tiles.{tile_height, tile_width}
use Rattle.tile_frame.proofs.Framing.{row_as}
use Rattle.local_ops.specs.Operands.{cell_by}
use Rattle.local_ops.proofs.LentRows.{row_cells-two, width_at}
use Rattle.local_ops.proofs.rows.row_of_two.Goals as goal

pub make_row-requires-clause-columns : goal.make_row-requires-clause-columns
make_row-requires-clause-columns g c = λ k l.
    let h = tile_height c.args.extent c.args.tile in
    let w = tile_width c.args.extent c.args.tile in
    let first = width_at c.args.views.now h w 0 c.index-views-0.result c.requires.sizes (omega (arith, c.requires.two)) c.index-views-0.is in
    let second = width_at c.args.views.now h w 1 c.index-views-1.result c.requires.sizes (omega (arith, c.requires.two)) c.index-views-1.is in
    (omega (arith, l, first, c.row-left.ensures.width), omega (arith, l, second, c.row-right.ensures.width))

pub returns : goal.returns
unfolding cell_by
returns g c =
    row_as _ (cell_by (g.P.Pairing.op c.args.pairing.now) c.args.views.now c.args.r) c.args.extent c.args.tile c.args.r c.args.made.now c.make_row.new.made c.make_row.result
    (λ k l. ap (local_cell (g.P.Pairing.op c.args.pairing.now)) (sym (row_cells-two c.args.views.now c.args.r k c.index-views-0.result c.index-views-1.result c.row-left.result.now c.row-right.result.now c.requires.two c.index-views-0.is c.row-left.ensures.row c.index-views-1.is c.row-right.ensures.row)))
    c.make_row.ensures
