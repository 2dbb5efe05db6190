use Rattle.std.proofs.Common.{◌≡◌, ◌*◌, ◌++◌}
use Rattle.std.specs.List.{flat_map, range_with_len}
use Rattle.layer_tiles.specs.Tallies.{RisesBy}
use Rattle.layer_tiles.specs.Tiles.{tiles_across}
use Rattle.grid_text.specs.Printed.{row_text}
use Rattle.grid_text.proofs.print.put_rows.Given as goal

abbrev pub invariant-loop-r : goal.invariant-loop-r
invariant-loop-r g l = record {
  rows : l.text.items ≡ l.initial.text.items ++ flat_map (row_text l.layer.size l.layer.cells) (range_with_len 0 l.r);
  looks : RisesBy (l.r * tiles_across l.layer.size) 0 (g.M.Tally.counts l.initial.tally) (g.M.Tally.counts l.tally);
}
