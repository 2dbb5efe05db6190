use Rattle.std.proofs.Common.{arith}
use Rattle.near_cells.proofs.Adding.{ok_then}
use Rattle.drainage_flow.proofs.Downs.{row_joined}
use Rattle.drainage_flow.proofs.bands.add_row.Goals as goal

pub returns : goal.returns
returns c =
    ok_then c.add_edge-3.result _ _
    (row_joined c.args.extent c.args.surface.now c.args.row c.columns-columns.result c.args.downs.now.items c.add_edge-2.new.downs.items c.add_inner.new.downs.items c.add_edge-3.new.downs.items c.columns-columns.ensures.columns (omega (arith, c.if-columns-eq1.false, c.columns-columns.ensures.size.some_column)) c.in_ok-add_edge.ensures c.in_ok-add_inner.ensures)
    c.add_edge-3.ensures
