use Rattle.std.proofs.Common.{ℕ, ◌+◌, ◌≤◌, ◌+ℤ◌, ◌∙◌, ap, arith, sym, ℤ}
use Rattle.layer_tiles.specs.Tiles.{tiles_in, tile_size}
use Rattle.layer_tiles.proofs.Rising.{rises_then, rises_within}
use Rattle.zonal_totals.specs.Sums.{sum_to, place_of}
use Rattle.zonal_totals.specs.Drafts.{value_shift, tile_shift}
use Rattle.zonal_totals.proofs.Sums.{sum_more, sum_tiles}
use Rattle.zonal_totals.proofs.Drafting.{few_tiles, small_tile}
use Rattle.zonal_totals.proofs.Looking.{looks_held, looks_rise, looks_more}
use Rattle.zonal_totals.proofs.Steady.{steady}
use Rattle.zonal_totals.proofs.Skipping.{skip_values, skip_zones}
use Rattle.zonal_totals.proofs.drafts.drafted.Goals as goal

pub compare_tile-requires-clause-value_room : goal.compare_tile-requires-clause-value_room
compare_tile-requires-clause-value_room g c =
    let s = c.args.zones.now.size in
    let size = c.extent-zones_stay.ensures.size in
    let next = c.in-Some.ensures in
    omega (arith, c.loop-tile.invariant.value_weight, small_tile s c.in-Some.tile size next.1, few_tiles s size, next.0, next.1)

pub compare_tile-requires-clause-tile_room : goal.compare_tile-requires-clause-tile_room
compare_tile-requires-clause-tile_room g c =
    let s = c.args.zones.now.size in
    let size = c.extent-zones_stay.ensures.size in
    let next = c.in-Some.ensures in
    omega (arith, c.loop-tile.invariant.tile_weight, small_tile s c.in-Some.tile size next.1, few_tiles s size, next.0, next.1)

pub overflow_add-from : goal.overflow_add-from
overflow_add-from g c = omega (arith, c.in-Some.ensures.1, few_tiles c.args.zones.now.size c.extent-zones_stay.ensures.size)

pub loop-tile-smaller : goal.loop-tile-smaller
loop-tile-smaller g c = let next = c.in-Some.ensures in omega (arith, next.0, next.1)

pub returns-in_err-compare_tile-clause-looks : goal.returns-in_err-compare_tile-clause-looks
returns-in_err-compare_tile-clause-looks g c =
    let values = c.args.values.now in
    let zones = c.args.zones.now in
    let t = c.in-Some.tile in
    let next = c.in-Some.ensures in
    rises_within _ _ _ _ _ _
    (omega (arith, looks_more values zones t next.2, looks_rise values zones c.loop-tile.from t next.0, looks_rise values zones (t + 1) (tiles_in zones.size) (omega (arith, next.1)), looks_held values zones))
    (omega arith)
    (rises_then _ _ _ _ _ _ _ c.loop-tile.invariant.looks c.compare_tile.ensures.looks)

pub loop-tile-preserved : goal.loop-tile-preserved
loop-tile-preserved g c =
    let values = c.args.values.now in
    let zones = c.args.zones.now in
    let s = zones.size in
    let size = c.extent-zones_stay.ensures.size in
    let sv = steady values c.extent-values_stay.ensures.change in
    let sz = steady zones c.extent-zones_stay.ensures.change in
    let t = c.in-Some.tile in
    let next = c.in-Some.ensures in
    let inv = c.loop-tile.invariant in
    let d = c.in_ok-compare_tile.ensures in
    let small = small_tile s t size next.1 in
    let le : t ≤ tiles_in s = omega (arith, next.1) in
    record {
      within = omega (arith, next.1);
      values = λ p.
          let f = λ (u : ℕ). sum_to (λ k. value_shift values zones p (place_of s u k)) (tile_size s u) in
          d.values p ∙ ap (λ (x : ℤ). x +ℤ f t) (inv.values p ∙ sym (skip_values values zones c.requires.size size sv sz c.loop-tile.from t next.0 le next.3 p)) ∙ sym (sum_more f t);
      tiles = λ p.
          let f = λ (u : ℕ). sum_to (λ k. tile_shift zones p (place_of s u k)) (tile_size s u) in
          d.tiles p ∙ ap (λ (x : ℤ). x +ℤ f t) (inv.tiles p ∙ sym (skip_zones values zones c.requires.size size sv sz c.loop-tile.from t next.0 le next.3 p)) ∙ sym (sum_more f t);
      value_weight = omega (arith, inv.value_weight, d.value_weight, small, next.0);
      tile_weight = omega (arith, inv.tile_weight, d.tile_weight, small, next.0);
      looks = rises_within _ _ _ _ _ _ (omega (arith, looks_more values zones t next.2, looks_rise values zones c.loop-tile.from t next.0)) (omega arith) (rises_then _ _ _ _ _ _ _ inv.looks d.looks);
    }

pub returns-clause-values : goal.returns-clause-values
returns-clause-values g c = λ p.
    let values = c.args.values.now in
    let zones = c.args.zones.now in
    let s = zones.size in
    let size = c.extent-zones_stay.ensures.size in
    let sv = steady values c.extent-values_stay.ensures.change in
    let sz = steady zones c.extent-zones_stay.ensures.change in
    let inv = c.loop-tile.invariant in
    let le : tiles_in s ≤ tiles_in s = omega arith in
    inv.values p ∙ sym (skip_values values zones c.requires.size size sv sz c.loop-tile.from (tiles_in s) inv.within le c.in_default.ensures p) ∙ sum_tiles s size (value_shift values zones p)

pub returns-clause-tiles : goal.returns-clause-tiles
returns-clause-tiles g c = λ p.
    let values = c.args.values.now in
    let zones = c.args.zones.now in
    let s = zones.size in
    let size = c.extent-zones_stay.ensures.size in
    let sv = steady values c.extent-values_stay.ensures.change in
    let sz = steady zones c.extent-zones_stay.ensures.change in
    let inv = c.loop-tile.invariant in
    let le : tiles_in s ≤ tiles_in s = omega arith in
    inv.tiles p ∙ sym (skip_zones values zones c.requires.size size sv sz c.loop-tile.from (tiles_in s) inv.within le c.in_default.ensures p) ∙ sum_tiles s size (tile_shift zones p)

pub returns-clause-value_weight : goal.returns-clause-value_weight
returns-clause-value_weight g c = omega (arith, c.loop-tile.invariant.value_weight, c.loop-tile.invariant.within, few_tiles c.args.zones.now.size c.extent-zones_stay.ensures.size)

pub returns-clause-tile_weight : goal.returns-clause-tile_weight
returns-clause-tile_weight g c = omega (arith, c.loop-tile.invariant.tile_weight, c.loop-tile.invariant.within, few_tiles c.args.zones.now.size c.extent-zones_stay.ensures.size)

pub returns-clause-looks : goal.returns-clause-looks
returns-clause-looks g c =
    let values = c.args.values.now in
    let zones = c.args.zones.now in
    rises_within _ _ _ _ _ _ (omega (arith, looks_rise values zones c.loop-tile.from (tiles_in zones.size) c.loop-tile.invariant.within, looks_held values zones)) (omega arith) c.loop-tile.invariant.looks
