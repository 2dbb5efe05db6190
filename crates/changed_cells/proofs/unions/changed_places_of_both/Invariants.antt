use Rattle.std.proofs.Common.{◌*◌}
use Rattle.map_defs.specs.Differences.{differs}
use Rattle.layer_tiles.specs.Tallies.{RisesBy}
use Rattle.layer_tiles.specs.Changes.{cells_before}
use Rattle.changed_cells.specs.Unions.{AreJoinedTo}
use Rattle.changed_cells.proofs.unions.changed_places_of_both.Given as goal

abbrev pub invariant-loop-at : goal.invariant-loop-at
invariant-loop-at g l = record {
  joined : AreJoinedTo l.one.size (differs (cells_before l.one) l.one.cells) l.at-items l.at-index l.found.items;
  picks : RisesBy 0 (2 * l.at-index) (g.M.Tally.counts l.initial.tally) (g.M.Tally.counts l.tally);
}
