use Rattle.std.proofs.Common.{◌≡◌, ◌*◌, ◌++◌, min, take, drop}
use Rattle.layer_tiles.specs.Tallies.{RisesBy}
use Rattle.grid_text.specs.Blanks.{blanked}
use Rattle.grid_text.proofs.print.put_row.Given as goal

abbrev pub invariant-loop-k : goal.invariant-loop-k
invariant-loop-k g l = record {
  row : l.text.items ≡ l.initial.text.items ++ blanked (take (min (32 * l.k) l.layer.size.columns) (drop (l.r * l.layer.size.columns) l.layer.cells));
  looks : RisesBy l.k 0 (g.M.Tally.counts l.initial.tally) (g.M.Tally.counts l.tally);
}
