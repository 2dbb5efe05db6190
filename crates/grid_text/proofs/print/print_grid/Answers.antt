use Rattle.std.proofs.Common.{sym, subst}
use Rattle.grid_text.specs.ReadBack.{ReadsAs}
use Rattle.grid_text.proofs.ReadingBack.{reads_back}
use Rattle.grid_text.proofs.RowTexts.{whole_text}
use Rattle.layer_tiles.proofs.RowLooks.{rows_rise}
use Rattle.grid_text.proofs.print.print_grid.Goals as goal

pub returns-in_err-put_rows-clause-looks : goal.returns-in_err-put_rows-clause-looks
returns-in_err-put_rows-clause-looks g c = rows_rise c.args.layer.now.size _ _ c.put_rows.ensures.looks

pub returns-clause-text : goal.returns-clause-text
returns-clause-text g c =
    whole_text c.new-text.result.items c.put_header.new.text.items c.put_rows.new.text.items c.args.header.now c.extent.result c.args.layer.now.size c.args.layer.now.cells
    c.new-text.ensures.items c.in_ok-put_header.ensures c.extent.ensures.extent c.in_ok-put_rows.ensures.rows

pub returns-clause-looks : goal.returns-clause-looks
returns-clause-looks g c = rows_rise c.args.layer.now.size _ _ c.put_rows.ensures.looks

pub returns-clause-reads : goal.returns-clause-reads
returns-clause-reads g c = λ header.
    subst (λ text. ReadsAs text c.args.header.now c.args.layer.now.size c.args.layer.now.cells)
    (sym (whole_text c.new-text.result.items c.put_header.new.text.items c.put_rows.new.text.items c.args.header.now c.extent.result c.args.layer.now.size c.args.layer.now.cells
    c.new-text.ensures.items c.in_ok-put_header.ensures c.extent.ensures.extent c.in_ok-put_rows.ensures.rows))
    (reads_back c.args.header.now c.args.layer.now.size c.args.layer.now.cells header c.extent.ensures.layer.size c.extent.ensures.layer.cells c.extent.ensures.layer.are_cells)
