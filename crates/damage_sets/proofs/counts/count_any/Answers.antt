use Rattle.std.proofs.Common.{None, Some, arith, ap}
use Rattle.map_nums.specs.Tiles.{tiles_in}
use Rattle.damage_sets.proofs.Counting.{counted_any, counted_both, any_most}
use Rattle.damage_sets.proofs.counts.count_any.Goals as goal

pub overflow_add-own : goal.overflow_add-own
overflow_add-own c =
    omega (arith, counted_both c.args.set.now c.args.patch.now c.count_set.result c.count_new.result c.requires.size c.count_set.ensures c.count_new.ensures, any_most c.args.set.now c.args.patch.now None, c.tiles-tiles.ensures.tiles, c.tiles-tiles.type_inv, ap tiles_in c.extent.ensures.extent, ap tiles_in c.requires.size)

pub count_new-requires-in-Some : goal.count_new-requires-in-Some
count_new-requires-in-Some c = rw (c.in-Some.is) at c.requires.further

pub overflow_add-result : goal.overflow_add-result
overflow_add-result c =
    let same = rw (c.in-Some.is) at c.requires.further in
    omega (arith, counted_any c.args.set.now c.args.patch.now c.count_set.result c.count_new.result c.requires.size c.count_set.ensures c.count_new.ensures c.in-Some.other.now c.count_new-in-Some.result same c.count_new-in-Some.ensures, any_most c.args.set.now c.args.patch.now (Some c.in-Some.other.now), c.tiles-tiles.ensures.tiles, c.tiles-tiles.type_inv, ap tiles_in c.extent.ensures.extent, ap tiles_in c.requires.size)

pub returns-in-Some : goal.returns-in-Some
returns-in-Some c =
    let same = rw (c.in-Some.is) at c.requires.further in
    rw (c.in-Some.is) (counted_any c.args.set.now c.args.patch.now c.count_set.result c.count_new.result c.requires.size c.count_set.ensures c.count_new.ensures c.in-Some.other.now c.count_new-in-Some.result same c.count_new-in-Some.ensures)

pub returns-in-None : goal.returns-in-None
returns-in-None c = rw (c.in-None.is) (counted_both c.args.set.now c.args.patch.now c.count_set.result c.count_new.result c.requires.size c.count_set.ensures c.count_new.ensures)
