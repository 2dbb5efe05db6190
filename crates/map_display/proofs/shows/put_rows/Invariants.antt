use Rattle.std.proofs.Common.{◌≡◌, ◌*◌, ◌++◌, List, map, codes}
use Rattle.std.specs.List.{flat_map, range_with_len}
use Rattle.layer_tiles.specs.Tallies.{RisesBy}
use Rattle.layer_tiles.specs.Tiles.{tiles_across}
use Rattle.map_defs.specs.Ops.{Name}
use Rattle.map_edits.specs.Marks.{Mark}
use Rattle.map_machine.specs.Displays.{row_in}
use Rattle.map_machine.specs.Signs.{sign_of}
use Rattle.map_display.specs.OfLayer.{AreSigns}
use Rattle.map_display.proofs.shows.put_rows.Given as goal

abbrev pub invariant-loop-r : goal.invariant-loop-r
invariant-loop-r g l = record {
  rows : (symbols : List Mark) (n : Name) → AreSigns symbols n l.signs → l.text.items ≡ l.initial.text.items ++ flat_map (λ r. map (sign_of symbols n) (row_in l.layer.size.columns l.layer.cells r) ++ codes "\n") (range_with_len 0 l.r);
  looks : RisesBy (l.r * tiles_across l.layer.size) 0 (g.M.Tally.counts l.initial.tally) (g.M.Tally.counts l.tally);
}
