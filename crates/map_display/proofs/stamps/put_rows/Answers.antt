use Rattle.std.proofs.Common.{◌++◌, List, ℕ, map, decimal, codes, ap, ◌∙◌}
use Rattle.layer_tiles.specs.Tiles.{tiles_across}
use Rattle.grid_text.specs.Printed.{spaced}
use Rattle.map_machine.specs.Displays.{row_in}
use Rattle.map_display.proofs.Rows.{next_row}
use Rattle.map_display.proofs.stamps.put_rows.Goals as goal

pub loop-r-preserved : goal.loop-r-preserved
loop-r-preserved c =
    let layer = c.args.layer.now in
    next_row c.args.text.now.items c.loop-r.text.items c.put_row.new.text.items (λ (r : ℕ). spaced (map decimal (row_in (tiles_across layer.size) layer.stamps r)) ++ codes "\n") c.loop-r.r c.loop-r.invariant
    (c.in_ok-put_row.ensures ∙ ap (λ (row : List ℕ). c.loop-r.text.items ++ (spaced (map decimal row) ++ codes "\n")) (c.deref.ensures.value ∙ c.in_ok-row.ensures))
