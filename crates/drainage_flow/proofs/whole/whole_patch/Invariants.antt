use Rattle.std.proofs.Common.{◌≡◌, None}
use Rattle.layer_tiles.specs.Patches.{IsAboveLast}
use Rattle.tile_work.specs.Working.{IsPatchOf}
use Rattle.drainage_flow.specs.Whole.{flow_cells}
use Rattle.drainage_flow.proofs.whole.whole_patch.Given as goal

abbrev pub invariant-loop-tile : goal.invariant-loop-tile
invariant-loop-tile l = record {
  size : l.patch.size ≡ l.extent;
  above : IsAboveLast l.patch.tiles l.tile;
  patch : IsPatchOf l.extent None (flow_cells l.extent l.surface l.bands) l.tile l.patch.tiles;
}
