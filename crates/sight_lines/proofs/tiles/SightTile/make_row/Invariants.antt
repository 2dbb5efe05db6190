use Rattle.std.proofs.Common.{◌+◌, ◌*◌}
use Rattle.layer_tiles.specs.Tiles.{tile_width}
use Rattle.sight_lines.specs.SightTiles.{IsMadeTo}
use Rattle.sight_lines.proofs.tiles.SightTile.make_row.Given as goal

abbrev pub invariant-loop-c : goal.invariant-loop-c
invariant-loop-c l = IsMadeTo l.self (l.r * tile_width l.self.surface.now.size l.self.tile + l.c) l.made
