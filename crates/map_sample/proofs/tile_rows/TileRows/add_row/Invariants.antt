use Rattle.std.proofs.Common.{◌≡◌, ◌+◌, ◌*◌, drop}
use Rattle.std.specs.Vec.Iter.{into_iter_items, into_iter_len}
use Rattle.layer_tiles.specs.Tiles.{tiles_across}
use Rattle.layer_tiles.specs.Wholes.{IsCut}
use Rattle.map_sample.specs.Grids.{cells_of}
use Rattle.map_sample.proofs.tile_rows.TileRows.add_row.Given as goal

abbrev pub invariant-loop-k : goal.invariant-loop-k
invariant-loop-k l = record {
  rest : into_iter_items l.rest ≡ drop l.k l.fn.tiles.items;
  left : into_iter_len l.rest + l.k ≡ tiles_across l.self.extent;
  cut : IsCut l.self.extent (cells_of l.self.extent l.self.grid) (l.down * tiles_across l.self.extent + l.k) l.patch;
}
