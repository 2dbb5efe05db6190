use Rattle.std.proofs.Common.{◌≡◌, None}
use Rattle.layer_tiles.specs.Patches.{IsAboveLast}
use Rattle.tile_work.specs.Working.{IsPatchOf}
use Rattle.friction_spread.specs.Shown.{shown_cells}
use Rattle.friction_spread.proofs.shows.cost_patch.Given as goal

abbrev pub invariant-loop-tile : goal.invariant-loop-tile
invariant-loop-tile l = record {
  size : l.patch.size ≡ l.extent;
  above : IsAboveLast l.patch.tiles l.tile;
  patch : IsPatchOf l.extent None (shown_cells l.extent l.limit l.costs) l.tile l.patch.tiles;
}
