use Rattle.std.proofs.Common.{◌≡◌, ◌*◌, ◌++◌, min, take, drop}
use Rattle.layer_tiles.specs.Tallies.{RisesBy}
use Rattle.cell_kinds.proofs.rows.push_row.Given as goal

abbrev pub invariant-loop-k : goal.invariant-loop-k
invariant-loop-k g l = record {
  row : l.cells.items ≡ l.initial.cells.items ++ take (min (32 * l.k) l.layer.size.columns) (drop (l.r * l.layer.size.columns) l.layer.cells);
  looks : RisesBy l.k 0 (g.M.Tally.counts l.initial.tally) (g.M.Tally.counts l.tally);
}
