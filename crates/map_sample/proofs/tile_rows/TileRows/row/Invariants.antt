use Rattle.std.proofs.Common.{◌≡◌, ◌*◌, map}
use Rattle.std.specs.List.{range_with_len}
use Rattle.layer_tiles.specs.Tiles.{tile_block, tiles_across}
use Rattle.map_sample.specs.Grids.{cells_of}
use Rattle.map_sample.proofs.tile_rows.TileRows.row.Given as goal

abbrev pub invariant-loop-k : goal.invariant-loop-k
invariant-loop-k l = l.tiles.items ≡ map (tile_block l.self.extent (cells_of l.self.extent l.self.grid)) (range_with_len (l.down * tiles_across l.self.extent) l.k)
