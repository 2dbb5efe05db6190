use Rattle.std.proofs.Common.{ap, ◌∙◌}
use Rattle.map_nums.specs.Grids.{Size}
use Rattle.layer_tiles.proofs.RowLooks.{rows_rise}
use Rattle.map_display.proofs.Told.{whole_show}
use Rattle.map_display.proofs.shows.print_show.Goals as goal

pub returns-in_err-put_rows-clause-looks : goal.returns-in_err-put_rows-clause-looks
returns-in_err-put_rows-clause-looks g c = rows_rise c.args.layer.now.size _ _ c.put_rows.ensures.looks

pub returns-clause-text : goal.returns-clause-text
returns-clause-text g c =
    whole_show c.args.name.now c.args.layer.now.size c.args.layer.now.cells c.args.symbols.now c.in_ok-text.text.items c.reserve.new.self.items c.put_counted.new.text.items c.put_counted-2.new.text.items c.push.new.self.items c.put_rows.new.text.items c.rows-2.result c.columns.result
    c.in_ok-text.ensures c.reserve.ensures.items c.in_ok-put_counted.ensures c.in_ok-put_counted-2.ensures c.in_ok-push.ensures.items
    (c.rows-2.ensures.rows ∙ ap (λ (s : Size). s.rows) c.extent-extent.ensures.extent) (c.columns.ensures.columns ∙ ap (λ (s : Size). s.columns) c.extent-extent.ensures.extent)
    (c.in_ok-put_rows.ensures.rows c.args.symbols.now c.args.name.now c.in_ok-signs.ensures)

pub returns-clause-looks : goal.returns-clause-looks
returns-clause-looks g c = rows_rise c.args.layer.now.size _ _ c.put_rows.ensures.looks
