use Rattle.std.proofs.Common.{◌*◌}
use Rattle.layer_tiles.specs.Tiles.{tile_height, tile_width}
use Rattle.layer_tiles.specs.PlaceByPlace.{IsMade}
use Rattle.tile_frame.specs.Frames.{by_row}
use Rattle.tile_frame.proofs.tiles.make_tile.Given as goal

abbrev pub invariant-loop-r : goal.invariant-loop-r
invariant-loop-r g l = IsMade (by_row (tile_width l.extent l.tile) (g.K.TileMaker.value l.maker)) (tile_height l.extent l.tile) (tile_width l.extent l.tile) (l.r * tile_width l.extent l.tile) l.made
