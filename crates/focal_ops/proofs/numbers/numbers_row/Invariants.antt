use Rattle.layer_tiles.specs.Tiles.{tile_width}
use Rattle.tile_frame.specs.Frames.{IsRowMade}
use Rattle.focal_ops.specs.Masks.{statistic_round}
use Rattle.focal_ops.proofs.numbers.numbers_row.Given as goal

abbrev pub invariant-loop-c : goal.invariant-loop-c
invariant-loop-c l = IsRowMade (statistic_round l.maker.stat l.maker.mask.now.reach l.maker.mask.now.halves l.maker.near.now.cells l.maker.near.now.width l.r) (tile_width l.fn.extent l.fn.tile) l.r l.c l.initial.made l.made
