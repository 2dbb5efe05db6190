use Rattle.std.proofs.Common.{◌*◌, take}
use Rattle.layer_tiles.specs.Tallies.{RisesBy}
use Rattle.layer_tiles.specs.Tiles.{tiles_across}
use Rattle.cell_kinds.specs.Expanded.{AreRuns}
use Rattle.cell_kinds.proofs.kinds.all_runs.Given as goal

abbrev pub invariant-loop-r : goal.invariant-loop-r
invariant-loop-r g l = record {
  runs : AreRuns l.runs.items (take (l.r * l.layer.size.columns) l.layer.cells);
  looks : RisesBy (l.r * tiles_across l.layer.size) 0 (g.M.Tally.counts l.initial.tally) (g.M.Tally.counts l.tally);
}
