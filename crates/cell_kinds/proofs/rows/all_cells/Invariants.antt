use Rattle.std.proofs.Common.{◌≡◌, ◌*◌, take}
use Rattle.layer_tiles.specs.Tallies.{RisesBy}
use Rattle.layer_tiles.specs.Tiles.{tiles_across}
use Rattle.cell_kinds.proofs.rows.all_cells.Given as goal

abbrev pub invariant-loop-r : goal.invariant-loop-r
invariant-loop-r g l = record {
  cells : l.cells.items ≡ take (l.r * l.layer.size.columns) l.layer.cells;
  looks : RisesBy (l.r * tiles_across l.layer.size) 0 (g.M.Tally.counts l.initial.tally) (g.M.Tally.counts l.tally);
}
