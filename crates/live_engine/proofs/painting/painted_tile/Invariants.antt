use Rattle.std.proofs.Common.{◌*◌}
use Rattle.layer_tiles.specs.Tiles.{tile_width}
use Rattle.live_engine.specs.Painting.{rectangle_of, IsPainted}
use Rattle.live_engine.proofs.painting.painted_tile.Given as goal

abbrev pub invariant-loop-r : goal.invariant-loop-r
invariant-loop-r l = IsPainted l.extent l.tile (rectangle_of l.rectangle) l.cell l.old (l.r * tile_width l.extent l.tile) l.made
