use Rattle.std.proofs.Common.{◌*◌}
use Rattle.layer_tiles.specs.Tiles.{tile_height, tile_width}
use Rattle.layer_tiles.specs.PlaceByPlace.{IsMade}
use Rattle.tile_frame.specs.Frames.{by_row}
use Rattle.focal_ops.specs.Masks.{statistic_round}
use Rattle.focal_ops.proofs.numbers.numbers_rows.Given as goal

abbrev pub invariant-loop-r : goal.invariant-loop-r
invariant-loop-r l = IsMade (by_row (tile_width l.extent l.tile) (statistic_round l.maker.stat l.maker.mask.now.reach l.maker.mask.now.halves l.maker.near.now.cells l.maker.near.now.width)) (tile_height l.extent l.tile) (tile_width l.extent l.tile) (l.r * tile_width l.extent l.tile) l.made
