use Rattle.std.proofs.Common.{◌≤◌, length, take, map, get_or, None, option_and_then, ap, sym, subst, ◌∙◌, Bor}
use Rattle.map_nums.specs.Grids.{Cells}
use Rattle.map_defs.specs.Local.{LocalOp, local_cell, of_numbers}
use Rattle.layer_tiles.specs.Tiles.{tile_height, tile_width}
use Rattle.tile_frame.proofs.Framing.{row_as}
use Rattle.local_ops.specs.Operations.{op_of, Takes}
use Rattle.local_ops.specs.Operands.{cell_by}
use Rattle.local_ops.proofs.Numbers.{takes_some, takes_all}
use Rattle.local_ops.proofs.LentRows.{rows-column, rows-count, rows-wide}
use Rattle.local_ops.proofs.rows.row_of_any.Goals as goal

pub make_row-requires-clause-columns : goal.make_row-requires-clause-columns
make_row-requires-clause-columns c = λ k l.
    let views = c.args.views.now in
    let rows = take (length views) c.rows_of-all.result in
    let widths = c.rows_of-all.ensures.widths in
    (subst (λ n. n ≤ 8) (sym (rows-count rows views widths)) (takes_some _ _ c.requires.takes).1, rows-wide rows views (tile_height c.args.extent c.args.tile) (tile_width c.args.extent c.args.tile) k widths c.requires.sizes l)

pub make_row-requires-in_default-clause-columns : goal.make_row-requires-in_default-clause-columns
make_row-requires-in_default-clause-columns c = λ k l.
    let views = c.args.views.now in
    let rows = take (length views) c.rows_of-all.result in
    let widths = c.rows_of-all.ensures.widths in
    (subst (λ n. Takes (op_of c.args.op.now) n) (sym (rows-count rows views widths)) c.requires.takes, rows-wide rows views (tile_height c.args.extent c.args.tile) (tile_width c.args.extent c.args.tile) k widths c.requires.sizes l)

pub returns-in-Ignoring : goal.returns-in-Ignoring
unfolding cell_by
returns-in-Ignoring c =
    let op = op_of c.args.op.now in
    let views = c.args.views.now in
    let rows = take (length views) c.rows_of-all.result in
    row_as _ (cell_by op views c.args.r) c.args.extent c.args.tile c.args.r c.args.made.now c.make_row.new.made c.make_row.result
    (λ k l.
    let cells = map (λ (row : Bor Cells). get_or row.now k None) rows in
    ap (λ (o : LocalOp). local_cell o cells) (sym (ap op_of c.in-Ignoring.is)) ∙ ap (local_cell op) (rows-column rows views c.args.r k c.rows_of-all.ensures.rows))
    c.make_row.ensures

pub returns-in_default : goal.returns-in_default
unfolding cell_by
returns-in_default c =
    let op = op_of c.args.op.now in
    let views = c.args.views.now in
    let rows = take (length views) c.rows_of-all.result in
    row_as _ (cell_by op views c.args.r) c.args.extent c.args.tile c.args.r c.args.made.now c.make_row-in_default.new.made c.make_row-in_default.result
    (λ k l.
    let cells = map (λ (row : Bor Cells). get_or row.now k None) rows in
    ap (option_and_then (of_numbers op)) (sym (takes_all c.args.op.now cells c.in_default.not-Ignoring)) ∙ ap (local_cell op) (rows-column rows views c.args.r k c.rows_of-all.ensures.rows))
    c.make_row-in_default.ensures
