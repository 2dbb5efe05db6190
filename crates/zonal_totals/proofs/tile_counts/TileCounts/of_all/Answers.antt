use Rattle.std.proofs.Common.{List, ap, arith}
use Rattle.std.proofs.lemmas.Int.{ints}
use Rattle.zonal_totals.specs.declared.steps.Step.{Step}
use Rattle.zonal_totals.specs.Steps.{net_in, weight}
use Rattle.zonal_totals.proofs.Ranging.{done_none, done_room, done_more}
use Rattle.zonal_totals.proofs.tile_counts.TileCounts.of_all.Goals as goal

pub loop-range-init : goal.loop-range-init
loop-range-init c = λ values zones h. done_none c.args.extent values zones c.args.ranges.now _ _ c.new-values.ensures.items c.new-tiles.ensures.items h

pub joined-requires-clause-room : goal.joined-requires-clause-room
joined-requires-clause-room c =
    let done = c.loop-range.invariant c.requires.0 c.requires.1 c.requires.2 in
    let room = done_room c.args.extent c.requires.0 c.requires.1 _ c.args.ranges.now c.loop-range.range-index _ c.range-item.result c.range-item.is c.loop-range-test.true done c.tiles-size.ensures.size in
    omega (arith, room.0, ap weight c.deref.ensures.value, ap weight c.values.ensures)

pub joined-requires-in-loop-range-clause-room : goal.joined-requires-in-loop-range-clause-room
joined-requires-in-loop-range-clause-room c =
    let done = c.loop-range.invariant c.requires.0 c.requires.1 c.requires.2 in
    let room = done_room c.args.extent c.requires.0 c.requires.1 _ c.args.ranges.now c.loop-range.range-index _ c.range-item.result c.range-item.is c.loop-range-test.true done c.tiles-size.ensures.size in
    omega (arith, room.1, ap weight c.deref-in-loop-range.ensures.value, ap weight c.tiles.ensures)

pub loop-range-preserved : goal.loop-range-preserved
loop-range-preserved c = λ values zones h.
    let v = c.in_ok-values.ensures in
    let t = c.in_ok-tiles.ensures in
    let a = c.deref.ensures.value in
    let b = c.values.ensures in
    let e = c.deref-in-loop-range.ensures.value in
    let f = c.tiles.ensures in
    done_more c.args.extent values zones (record { values = c.loop-range.values.items; tiles = c.loop-range.tiles.items }) c.args.ranges.now c.loop-range.range-index _ c.range-item.result c.range-item.is c.loop-range-test.true (c.loop-range.invariant values zones h)
    c.in_ok-values.values.items c.in_ok-tiles.tiles.items
    v.order (λ p. omega (arith, ints, v.net p, ap (λ (l : List Step). net_in l p) a, ap (λ (l : List Step). net_in l p) b)) (omega (arith, v.weight, ap weight a, ap weight b))
    t.order (λ p. omega (arith, ints, t.net p, ap (λ (l : List Step). net_in l p) e, ap (λ (l : List Step). net_in l p) f)) (omega (arith, t.weight, ap weight e, ap weight f))
