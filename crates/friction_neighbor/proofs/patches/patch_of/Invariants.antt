use Rattle.std.proofs.Common.{◌≡◌, None}
use Rattle.layer_tiles.specs.Patches.{IsAboveLast}
use Rattle.tile_work.specs.Working.{IsPatchOf}
use Rattle.friction_neighbor.proofs.patches.patch_of.Given as goal

abbrev pub invariant-loop-tile : goal.invariant-loop-tile
invariant-loop-tile g l = record {
  size : l.patch.size ≡ l.extent;
  above : IsAboveLast l.patch.tiles l.tile;
  patch : IsPatchOf l.extent None (g.S.TileSource.cells l.source l.extent) l.tile l.patch.tiles;
}
