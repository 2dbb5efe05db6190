use Rattle.std.proofs.Common.{◌*◌, ◌++◌, min, take, drop}
use Rattle.layer_tiles.specs.Tallies.{RisesBy}
use Rattle.cell_kinds.specs.Expanded.{expanded, AreRuns}
use Rattle.cell_kinds.proofs.kinds.add_row.Given as goal

abbrev pub invariant-loop-k : goal.invariant-loop-k
invariant-loop-k g l = record {
  runs : AreRuns l.runs.items (expanded l.initial.runs.items ++ take (min (32 * l.k) l.layer.size.columns) (drop (l.r * l.layer.size.columns) l.layer.cells));
  looks : RisesBy l.k 0 (g.M.Tally.counts l.initial.tally) (g.M.Tally.counts l.tally);
}
