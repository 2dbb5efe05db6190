use Rattle.std.proofs.Common.{◌≡◌, ◌-◌, ◌*◌, ◌≤◌, pos}
use Rattle.map_nums.specs.Grids.{cell_at}
use Rattle.layer_tiles.specs.Tallies.{RisesBy}
use Rattle.zonal_totals.specs.declared.pairs.Pair.{Pair}
use Rattle.zonal_totals.specs.Books.{pairs_in, tile_number}
use Rattle.zonal_totals.specs.Ranges.{zone_within}
use Rattle.zonal_totals.specs.Running.{steps_of}
use Rattle.zonal_totals.specs.Steps.{net_in, weight}
use Rattle.zonal_totals.proofs.counts.counted.Given as goal

abbrev pub invariant-loop-tile : goal.invariant-loop-tile
invariant-loop-tile g l = record {
  begun : l.first ≤ l.tile;
  values : (p : Pair) → net_in (steps_of l.counting.values) p ≡ pos (pairs_in l.zones.size (zone_within l.zones.size l.zones.cells l.first l.tile) (cell_at l.values.cells) p);
  tiles : (p : Pair) → net_in (steps_of l.counting.tiles) p ≡ pos (pairs_in l.zones.size (zone_within l.zones.size l.zones.cells l.first l.tile) (tile_number l.zones.size) p);
  value_weight : weight (steps_of l.counting.values) ≤ 1024 * (l.tile - l.first);
  tile_weight : weight (steps_of l.counting.tiles) ≤ 1024 * (l.tile - l.first);
  looks : RisesBy (2 * (l.tile - l.first)) 0 (g.M.Tally.counts l.initial.tally) (g.M.Tally.counts l.tally);
}
