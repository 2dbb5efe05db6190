use Rattle.std.proofs.Common.{◌≡◌, ◌-◌, ◌*◌, ◌≤◌}
use Rattle.layer_tiles.specs.Tiles.{tiles_in, tile_size}
use Rattle.layer_tiles.specs.Tallies.{RisesBy}
use Rattle.zonal_totals.specs.declared.pairs.Pair.{Pair}
use Rattle.zonal_totals.specs.Steps.{net_in, weight}
use Rattle.zonal_totals.specs.Sums.{sum_to, place_of}
use Rattle.zonal_totals.specs.Drafts.{value_shift, tile_shift}
use Rattle.zonal_totals.proofs.Looking.{looks_below}
use Rattle.zonal_totals.proofs.drafts.drafted.Given as goal

abbrev pub invariant-loop-tile : goal.invariant-loop-tile
invariant-loop-tile g l = record {
  within : l.from ≤ tiles_in l.zones.size;
  values : (p : Pair) → net_in l.draft.values.items p ≡ sum_to (λ t. sum_to (λ k. value_shift l.values l.zones p (place_of l.zones.size t k)) (tile_size l.zones.size t)) l.from;
  tiles : (p : Pair) → net_in l.draft.tiles.items p ≡ sum_to (λ t. sum_to (λ k. tile_shift l.zones p (place_of l.zones.size t k)) (tile_size l.zones.size t)) l.from;
  value_weight : weight l.draft.values.items ≤ 2048 * l.from;
  tile_weight : weight l.draft.tiles.items ≤ 2048 * l.from;
  looks : RisesBy (looks_below l.values l.zones l.from) 0 (g.M.Tally.counts l.initial.tally) (g.M.Tally.counts l.tally);
}

abbrev pub decreases-loop-tile : goal.decreases-loop-tile
decreases-loop-tile g l = tiles_in l.zones.size - l.from
