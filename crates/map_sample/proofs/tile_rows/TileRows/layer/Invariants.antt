use Rattle.std.proofs.Common.{◌≡◌, ◌+◌, ◌*◌, drop}
use Rattle.std.specs.Vec.Iter.{into_iter_items, into_iter_len}
use Rattle.layer_tiles.specs.Tiles.{tiles_across, tiles_down}
use Rattle.layer_tiles.specs.Wholes.{IsCut}
use Rattle.map_sample.specs.Grids.{cells_of}
use Rattle.map_sample.proofs.tile_rows.TileRows.layer.Given as goal

abbrev pub invariant-loop-down : goal.invariant-loop-down
invariant-loop-down l = record {
  rest : into_iter_items l.rest ≡ drop l.down l.fn.rows.items;
  left : into_iter_len l.rest + l.down ≡ tiles_down l.self.extent;
  cut : IsCut l.self.extent (cells_of l.self.extent l.self.grid) (l.down * tiles_across l.self.extent) l.patch;
}
