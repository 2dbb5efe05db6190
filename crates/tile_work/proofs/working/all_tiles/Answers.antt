use Rattle.std.proofs.Common.{◌≡◌, ◌<◌, ℕ, List, Option, None, [], get_or, refl, sym, ap, subst, ◌∙◌, arith, length}
use Rattle.map_nums.specs.Grids.{Size}
use Rattle.std.specs.Prelude.{slice_set}
use Rattle.layer_tiles.specs.Tiles.{Block, tile_block, tiles_in}
use Rattle.layer_tiles.specs.Patches.{PatchState}
use Rattle.tile_work.specs.Working.{slot_at, work_cells, tile_now, seated_tiles, AreTileSeats, IsPatchOf, IsWork}
use Rattle.tile_work.proofs.Seats.{found_at, left, others_stay, seats_count}
use Rattle.tile_work.proofs.Slots.{length-work, some_slot}
use Rattle.tile_work.proofs.Pushing.{now_is, patch_none, patch_pushed, above_pushed, patch_all}
use Rattle.tile_work.proofs.working.all_tiles.Goals as goal
use Rattle.tile_work.proofs.working.all_tiles.Goals.{After-take-slot}

pub loop-tile-init : goal.loop-tile-init
loop-tile-init c =
    let e = c.new-patch.ensures in
    record {
      size = ap (λ (p : PatchState). p.size) e;
      seats = c.requires.seats;
      slots = λ t l. refl;
      above = rw (e) (λ l. absurd (omega (arith, l)));
      patch = rw (e) (patch_none c.args.extent None (work_cells c.args.extent [] (seated_tiles c.args.tiles.items c.args.seats.now)));
    }

-- a tile has its place among the seats
seat_there : (tiles : List (Option Block)) (seats : List ℕ) (s : Size) (t : ℕ) → IsWork s None (seated_tiles tiles seats) → t < tiles_in s → t < length seats
seat_there tiles seats s t work l = omega (arith, l, work.count, seats_count None tiles seats)

pub index_mut-requires : goal.index_mut-requires
index_mut-requires c =
    let l = seat_there c.args.tiles.items c.args.seats.now c.args.extent c.loop-tile.tile c.requires.work (omega (arith, c.loop-tile-test.true, c.tiles-tile-end.ensures.tiles)) in
    omega (arith, c.loop-tile.tiles.ok.0, c.loop-tile.invariant.seats.within c.loop-tile.tile l)

-- the slot is that of the working layer
slot_of : (c : After-take-slot) → slot_at (seated_tiles c.args.tiles.items c.args.seats.now) c.loop-tile.tile ≡ c.take-slot.result
slot_of c =
    sym (c.loop-tile.invariant.slots c.loop-tile.tile (omega arith))
    ∙ found_at None c.loop-tile.tiles.items c.args.seats.now c.loop-tile.tile c.index_mut.result.now c.loop-tile.invariant.seats (seat_there c.args.tiles.items c.args.seats.now c.args.extent c.loop-tile.tile c.requires.work (omega (arith, c.loop-tile-test.true, c.tiles-tile-end.ensures.tiles))) c.index_mut.ensures.value ∙ sym c.take-slot.ensures.value

pub push_any-requires-clause-slot : goal.push_any-requires-clause-slot
push_any-requires-clause-slot c = some_slot c.args.extent None (seated_tiles c.args.tiles.items c.args.seats.now) c.loop-tile.tile c.take-slot.result c.requires.work (slot_of (goal.at.push_any-requires-clause-slot c).After-take-slot)

-- and shows a tile of it
now_of : (c : After-take-slot) → tile_now c.args.extent None c.loop-tile.tile c.take-slot.result ≡ tile_block c.args.extent (work_cells c.args.extent [] (seated_tiles c.args.tiles.items c.args.seats.now)) c.loop-tile.tile
now_of c =
    let l : c.loop-tile.tile < tiles_in c.args.extent = omega (arith, c.loop-tile-test.true, c.tiles-tile-end.ensures.tiles) in
    now_is c.args.extent None (seated_tiles c.args.tiles.items c.args.seats.now) c.loop-tile.tile c.requires.work.size l c.take-slot.result (slot_of c) (λ b e. c.requires.work.sizes c.loop-tile.tile b (slot_of c ∙ e))

pub loop-tile-preserved : goal.loop-tile-preserved
loop-tile-preserved c =
    let d = (goal.at.loop-tile-preserved c).After-take-slot in
    let held = c.loop-tile.tiles.items in
    let seats = c.args.seats.now in
    let there = seat_there c.args.tiles.items seats c.args.extent c.loop-tile.tile c.requires.work (omega (arith, c.loop-tile-test.true, c.tiles-tile-end.ensures.tiles)) in
    let s = c.args.extent in
    let t = c.loop-tile.tile in
    let pushed = c.in_ok-push_any.ensures.ok in
    record {
      size = c.push_any.ensures.size;
      seats = subst (λ x. AreTileSeats (slice_set held (get_or seats t 0) x) seats) (sym c.take-slot.ensures.after) (left None held seats c.loop-tile.invariant.seats t there);
      slots = λ u l. ap (λ x. slot_at (seated_tiles (slice_set held (get_or seats t 0) x) seats) u) c.take-slot.ensures.after ∙ others_stay None held seats c.loop-tile.invariant.seats t there u (λ e. omega (arith, e, l)) ∙ c.loop-tile.invariant.slots u (omega (arith, l));
      above = above_pushed s None t c.take-slot.result c.loop-tile.patch.tiles c.push_any.new.patch.tiles c.loop-tile.invariant.above pushed;
      patch = patch_pushed s None (work_cells s [] (seated_tiles c.args.tiles.items c.args.seats.now)) t c.take-slot.result c.loop-tile.patch.tiles c.push_any.new.patch.tiles c.loop-tile.invariant.patch (now_of d) pushed;
    }

pub returns-clause-patch : goal.returns-clause-patch
returns-clause-patch c =
    let s = c.args.extent in
    let e : c.loop-tile.tile ≡ tiles_in s = omega (arith, c.loop-tile-test.false, c.tiles-tile-end.ensures.tiles, c.loop-tile.auto.tile-end) in
    patch_all s None (work_cells s [] (seated_tiles c.args.tiles.items c.args.seats.now)) c.loop-tile.patch.tiles c.requires.work.size (length-work s [] (seated_tiles c.args.tiles.items c.args.seats.now))
    (subst (λ n. IsPatchOf s None (work_cells s [] (seated_tiles c.args.tiles.items c.args.seats.now)) n c.loop-tile.patch.tiles) e c.loop-tile.invariant.patch)
