use Rattle.std.proofs.Common.{◌+◌, ◌*◌}
use Rattle.layer_tiles.specs.Tiles.{tile_width}
use Rattle.live_engine.specs.Painting.{rectangle_of, IsPainted}
use Rattle.live_engine.proofs.painting.paint_row.Given as goal

abbrev pub invariant-loop-c : goal.invariant-loop-c
invariant-loop-c l = IsPainted l.fn.extent l.fn.tile (rectangle_of l.rectangle) l.cell l.old (l.r * tile_width l.fn.extent l.fn.tile + l.c) l.made
