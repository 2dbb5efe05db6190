use Rattle.layer_tiles.specs.Tallies.{RisesBy}
use Rattle.flat_cells.specs.Copies.{HasTiles}
use Rattle.flat_cells.proofs.copies.cells_of.Given as goal

abbrev pub invariant-loop-tile : goal.invariant-loop-tile
invariant-loop-tile g l = record {
  tiles : HasTiles l.of.size l.of.cells l.tile l.cells.items;
  looks : RisesBy l.tile 0 (g.M.Tally.counts l.initial.tally) (g.M.Tally.counts l.tally);
}
