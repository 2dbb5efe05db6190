use Rattle.std.proofs.Common.{ℕ, ◌-◌, ◌*◌, ◌≤◌}
use Rattle.layer_tiles.specs.Changes.{cells_before}
use Rattle.layer_tiles.specs.Tiles.{tiles_in}
use Rattle.layer_tiles.specs.Tallies.{RisesBy}
use Rattle.changed_cells.specs.Changed.{AreChangedTo}
use Rattle.changed_cells.proofs.Touching.{IsSeen}
use Rattle.changed_cells.proofs.changes.changed_places.Given as goal

abbrev pub invariant-loop-tile : goal.invariant-loop-tile
invariant-loop-tile g l = record {
  within : l.from ≤ tiles_in l.of.size;
  found : AreChangedTo l.of.size (cells_before l.of) l.of.cells (l.from * 1024) l.found.items;
  seen : (k : ℕ) × IsSeen l.of.touched l.from k × RisesBy (2 * k) 0 (g.M.Tally.counts l.initial.tally) (g.M.Tally.counts l.tally);
}

abbrev pub decreases-loop-tile : goal.decreases-loop-tile
decreases-loop-tile g l = tiles_in l.of.size - l.from
