use Rattle.std.proofs.Common.{drop}
use Rattle.map_nums.specs.Grids.{Cells}
use Rattle.layer_tiles.specs.Tiles.{tiles_in}
use Rattle.zonal_totals.specs.Ranges.{AreRanges}
use Rattle.zonal_totals.proofs.Ranging.{AreDone}
use Rattle.zonal_totals.proofs.tile_counts.TileCounts.of_all.Given as goal

abbrev pub invariant-loop-range : goal.invariant-loop-range
invariant-loop-range l =
    (values zones : Cells) → AreRanges l.fn.extent values zones 0 (tiles_in l.fn.extent) l.ranges → AreDone l.fn.extent values zones (record { values = l.values.items; tiles = l.tiles.items }) (drop l.range-index l.ranges)
