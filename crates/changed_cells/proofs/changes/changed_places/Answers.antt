use Rattle.std.proofs.Common.{◌+◌, ◌*◌, ◌<◌, length, arith, refl, ap}
use Rattle.layer_tiles.specs.Tiles.{tiles_in}
use Rattle.layer_tiles.specs.Changes.{cells_before}
use Rattle.layer_tiles.proofs.Rising.{rises_none, rises_then, rises_within}
use Rattle.changed_cells.proofs.Ordering.{changed_none}
use Rattle.changed_cells.proofs.Touching.{none_seen, next_is, seen_next, skip_next, skip_last}
use Rattle.changed_cells.proofs.changes.changed_places.Given.{Over}
use Rattle.changed_cells.proofs.changes.changed_places.Goals as goal
use Rattle.changed_cells.proofs.changes.changed_places.Goals.{In-Some}

pub loop-tile-init : goal.loop-tile-init
loop-tile-init g c = record {
  within = omega arith;
  found = rw (c.new-found.ensures.items) (changed_none c.args.of.now.size (cells_before c.args.of.now) c.args.of.now.cells 0 refl);
  seen = (0, none_seen c.args.of.now.touched, rises_none _);
}

tile_lt : (g : Over) (c : In-Some g) → c.in-Some.tile < tiles_in c.args.of.now.size
tile_lt g c = c.extent.ensures.change.within c.in-Some.tile c.in-Some.ensures.next.held

pub add_tile-requires-clause-within : goal.add_tile-requires-clause-within
add_tile-requires-clause-within g c = tile_lt g (goal.at.add_tile-requires-clause-within g c).In-Some

pub overflow_add-from : goal.overflow_add-from
overflow_add-from g c = omega (arith, tile_lt g (goal.at.overflow_add-from g c).In-Some, c.tiles-tiles.ensures.tiles, c.tiles-tiles.type_inv, ap tiles_in c.extent.ensures.extent)

pub loop-tile-smaller : goal.loop-tile-smaller
loop-tile-smaller g c = omega (arith, tile_lt g (goal.at.loop-tile-smaller g c).In-Some, c.in-Some.ensures.next.not_below)

pub returns-in_err-add_tile-clause-looks : goal.returns-in_err-add_tile-clause-looks
returns-in_err-add_tile-clause-looks g c =
    let v = c.loop-tile.invariant.seen in
    let n = next_is c.args.of.now.touched c.loop-tile.from v.0 c.in-Some.tile c.extent.ensures.change.ascends v.1 c.in-Some.ensures.next in
    rises_within (2 * v.0 + 2) (0 + 0) (2 * length c.args.of.now.touched) 0 _ _ (omega (arith, n.0)) (omega arith) (rises_then (2 * v.0) 0 2 0 _ _ _ v.2 c.add_tile.ensures.looks)

pub loop-tile-preserved : goal.loop-tile-preserved
loop-tile-preserved g c =
    let v = c.loop-tile.invariant.seen in
    let h = c.extent.ensures.change in
    record {
      within = omega (arith, tile_lt g (goal.at.loop-tile-preserved g c).In-Some);
      found = c.in_ok-add_tile.ensures.added (skip_next c.args.of.now c.loop-tile.from c.in-Some.tile c.loop-tile.found.items h c.in-Some.ensures.next c.loop-tile.invariant.found);
      seen = (
        v.0 + 1,
        seen_next c.args.of.now.touched c.loop-tile.from v.0 c.in-Some.tile h.ascends v.1 c.in-Some.ensures.next,
        rises_within (2 * v.0 + 2) (0 + 0) (2 * (v.0 + 1)) 0 _ _ (omega arith) (omega arith) (rises_then (2 * v.0) 0 2 0 _ _ _ v.2 c.add_tile.ensures.looks),
      );
    }

pub returns-clause-places : goal.returns-clause-places
returns-clause-places g c = skip_last c.args.of.now c.loop-tile.from c.loop-tile.found.items c.extent.ensures.change c.loop-tile.invariant.within c.in_default.ensures.none c.loop-tile.invariant.found

pub returns-clause-looks : goal.returns-clause-looks
returns-clause-looks g c =
    let v = c.loop-tile.invariant.seen in
    rises_within (2 * v.0) 0 (2 * length c.args.of.now.touched) 0 _ _ (omega (arith, v.1.within)) (omega arith) v.2
