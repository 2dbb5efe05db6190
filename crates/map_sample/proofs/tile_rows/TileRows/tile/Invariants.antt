use Rattle.map_sample.specs.Grids.{cells_of}
use Rattle.map_sample.proofs.RowByRow.{HasRows}
use Rattle.map_sample.proofs.tile_rows.TileRows.tile.Given as goal

abbrev pub invariant-loop-r : goal.invariant-loop-r
invariant-loop-r l = HasRows l.self.extent (cells_of l.self.extent l.self.grid) l.number l.r l.made
