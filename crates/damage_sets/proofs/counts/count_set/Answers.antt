use Rattle.std.proofs.Common.{◌≡◌, arith, refl, sym, ap, ◌∙◌}
use Rattle.std.proofs.lemmas.List.Sums.{length-filter}
use Rattle.map_nums.specs.Tiles.{tiles, tiles_in}
use Rattle.damage_sets.specs.Sets.{has_tile}
use Rattle.damage_sets.proofs.Counting.{below, below_more}
use Rattle.damage_sets.proofs.counts.count_set.Goals as goal

pub loop-tile-preserved : goal.loop-tile-preserved
loop-tile-preserved c = record {
  few = omega (arith, c.loop-tile.invariant.few, c.one_if-count.ensures.most);
  counted = below_more (has_tile c.args.set.now) c.loop-tile.tile c.loop-tile.count c.one_if-count.result c.loop-tile.invariant.counted (c.one_if-count.ensures.value ∙ rw (c.has.ensures) refl);
}

pub returns : goal.returns
returns c =
    let end : c.loop-tile.tile ≡ tiles_in c.args.set.now.size = omega (arith, c.loop-tile-test.false, c.loop-tile.auto.tile-end, c.tiles-tile-end.ensures.tiles, ap tiles_in c.extent.ensures.extent) in
    c.loop-tile.invariant.counted ∙ ap (below (has_tile c.args.set.now)) end ∙ sym (length-filter (has_tile c.args.set.now) (tiles c.args.set.now.size))
