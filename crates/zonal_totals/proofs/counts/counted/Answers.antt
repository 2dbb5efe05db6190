use Rattle.std.proofs.Common.{◌+◌, ◌<◌, ◌∙◌, arith, sym}
use Rattle.std.proofs.lemmas.Int.{ints}
use Rattle.map_nums.specs.Grids.{cell_at}
use Rattle.layer_tiles.specs.Tiles.{tiles_in}
use Rattle.layer_tiles.proofs.Rising.{rises_none, rises_then, rises_within}
use Rattle.zonal_totals.specs.Books.{tile_number}
use Rattle.zonal_totals.proofs.Drafting.{small_tile}
use Rattle.zonal_totals.proofs.Ranging.{range_none, ranges_join, small_counts}
use Rattle.zonal_totals.proofs.counts.counted.Goals as goal

pub loop-tile-init : goal.loop-tile-init
loop-tile-init g c =
    let s = c.args.zones.now.size in
    let zones = c.args.zones.now.cells in
    record {
      begun = omega arith;
      values = λ p. c.in_ok-new.ensures.none p ∙ sym (range_none s zones (cell_at c.args.values.now.cells) p c.args.first);
      tiles = λ p. c.in_ok-new-2.ensures.none p ∙ sym (range_none s zones (tile_number s) p c.args.first);
      value_weight = omega (arith, c.in_ok-new.ensures.weight);
      tile_weight = omega (arith, c.in_ok-new-2.ensures.weight);
      looks = rises_within _ _ _ _ _ _ (omega arith) (omega arith) (rises_none _);
    }

pub count_tile-requires-clause-value_room : goal.count_tile-requires-clause-value_room
count_tile-requires-clause-value_room g c =
    let s = c.args.zones.now.size in
    let size = c.extent-size.ensures.size in
    let l : c.loop-tile.tile < tiles_in s = omega (arith, c.loop-tile-test.true, c.requires.within) in
    omega (arith, c.loop-tile.invariant.value_weight, small_tile s c.loop-tile.tile size l, small_counts s (c.loop-tile.tile + 1) size (omega (arith, l)))

pub count_tile-requires-clause-tile_room : goal.count_tile-requires-clause-tile_room
count_tile-requires-clause-tile_room g c =
    let s = c.args.zones.now.size in
    let size = c.extent-size.ensures.size in
    let l : c.loop-tile.tile < tiles_in s = omega (arith, c.loop-tile-test.true, c.requires.within) in
    omega (arith, c.loop-tile.invariant.tile_weight, small_tile s c.loop-tile.tile size l, small_counts s (c.loop-tile.tile + 1) size (omega (arith, l)))

pub loop-tile-preserved : goal.loop-tile-preserved
loop-tile-preserved g c =
    let s = c.args.zones.now.size in
    let zones = c.args.zones.now.cells in
    let first = c.args.first in
    let t = c.loop-tile.tile in
    let inv = c.loop-tile.invariant in
    let d = c.in_ok-count_tile.ensures in
    let l : t < tiles_in s = omega (arith, c.loop-tile-test.true, c.requires.within) in
    let small = small_tile s t c.extent-size.ensures.size l in
    record {
      begun = omega (arith, inv.begun);
      values = λ p. omega (arith, ints, inv.values p, d.values p, ranges_join s zones (cell_at c.args.values.now.cells) p first t (t + 1) inv.begun (omega arith));
      tiles = λ p. omega (arith, ints, inv.tiles p, d.tiles p, ranges_join s zones (tile_number s) p first t (t + 1) inv.begun (omega arith));
      value_weight = omega (arith, inv.value_weight, d.value_weight, small, inv.begun);
      tile_weight = omega (arith, inv.tile_weight, d.tile_weight, small, inv.begun);
      looks = rises_within _ _ _ _ _ _ (omega (arith, inv.begun)) (omega arith) (rises_then _ _ _ _ _ _ _ inv.looks d.looks);
    }
