use Rattle.std.proofs.Common.{arith, refl, sym, ap, ◌∙◌}
use Rattle.std.specs.Option.{option_copied}
use Rattle.std.proofs.lemmas.List.Sums.{length-filter}
use Rattle.map_nums.specs.Tiles.{tiles, tiles_in}
use Rattle.damage_sets.specs.Counted.{is_new}
use Rattle.damage_sets.proofs.Counting.{new_next, new_all, tile_below}
use Rattle.damage_sets.proofs.counts.count_new.Goals as goal

pub has_either-requires : goal.has_either-requires
has_either-requires c = omega (arith, tile_below c.args.patch.now c.in-Some.tile c.extent-extent.ensures.patch c.in-Some.ensures.next.held, ap tiles_in c.requires)

pub overflow_add-count : goal.overflow_add-count
overflow_add-count c = omega (arith, c.loop-tile.invariant.few, c.loop-tile.invariant.within, c.one_if-count.ensures.most, c.tiles-tiles.ensures.tiles, c.tiles-tiles.type_inv, ap tiles_in c.extent-extent.ensures.extent, tile_below c.args.patch.now c.in-Some.tile c.extent-extent.ensures.patch c.in-Some.ensures.next.held, c.in-Some.ensures.next.not_below)

pub overflow_add-from : goal.overflow_add-from
overflow_add-from c = omega (arith, tile_below c.args.patch.now c.in-Some.tile c.extent-extent.ensures.patch c.in-Some.ensures.next.held, c.tiles-tiles.ensures.tiles, c.tiles-tiles.type_inv, ap tiles_in c.extent-extent.ensures.extent)

pub loop-tile-preserved : goal.loop-tile-preserved
loop-tile-preserved c =
    let i = c.loop-tile.invariant in
    record {
      few = omega (arith, i.few, c.one_if-count.ensures.most, c.in-Some.ensures.next.not_below);
      within = omega (arith, tile_below c.args.patch.now c.in-Some.tile c.extent-extent.ensures.patch c.in-Some.ensures.next.held);
      counted = new_next c.args.patch.now c.args.set.now (option_copied c.args.other) c.loop-tile.from c.in-Some.tile c.loop-tile.count c.one_if-count.result c.in-Some.ensures.next i.counted (c.one_if-count.ensures.value ∙ rw (c.has_either.ensures) refl);
    }

pub returns : goal.returns
returns c =
    let new = is_new c.args.patch.now c.args.set.now (option_copied c.args.other) in
    new_all c.args.patch.now c.args.set.now (option_copied c.args.other) c.loop-tile.from (tiles_in c.args.patch.now.size) c.loop-tile.count c.loop-tile.invariant.within c.in_default.ensures.none c.loop-tile.invariant.counted
    ∙ sym (length-filter new (tiles c.args.patch.now.size))
