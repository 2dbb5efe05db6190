use Rattle.std.proofs.Common.{◌≡◌, None}
use Rattle.layer_tiles.specs.Patches.{IsAboveLast}
use Rattle.tile_work.specs.Working.{IsPatchOf}
use Rattle.region_labels.proofs.cuts.patch_of.Given as goal

abbrev pub invariant-loop-tile : goal.invariant-loop-tile
invariant-loop-tile l = record {
  size : l.patch.size ≡ l.extent;
  above : IsAboveLast l.patch.tiles l.tile;
  patch : IsPatchOf l.extent None l.labels l.tile l.patch.tiles;
}
