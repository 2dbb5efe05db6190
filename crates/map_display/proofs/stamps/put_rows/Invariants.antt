use Rattle.std.proofs.Common.{◌≡◌, ◌++◌, map, decimal, codes}
use Rattle.std.specs.List.{flat_map, range_with_len}
use Rattle.layer_tiles.specs.Tiles.{tiles_across}
use Rattle.grid_text.specs.Printed.{spaced}
use Rattle.map_machine.specs.Displays.{row_in}
use Rattle.map_display.proofs.stamps.put_rows.Given as goal

abbrev pub invariant-loop-r : goal.invariant-loop-r
invariant-loop-r l = l.text.items ≡ l.initial.text.items ++ flat_map (λ r. spaced (map decimal (row_in (tiles_across l.layer.size) l.layer.stamps r)) ++ codes "\n") (range_with_len 0 l.r)
