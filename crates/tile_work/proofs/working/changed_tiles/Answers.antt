use Rattle.std.proofs.Common.{◌≡◌, ℕ, List, ◌+◌, ◌<◌, ◌≤◌, inl, inr, Option, Some, None, [], refl, sym, ap, subst, ◌∙◌, arith, length, get_or}
use Rattle.std.proofs.lemmas.Bool.{cases_lt}
use Rattle.std.specs.Prelude.{slice_set}
use Rattle.layer_tiles.specs.Tiles.{Block, tile_block, tiles_in}
use Rattle.layer_tiles.specs.Patches.{PatchState, IsAboveLast}
use Rattle.layer_tiles.proofs.Rising.{rises_none, rises_then, rises_within}
use Rattle.tile_work.specs.Working.{slot_at, work_cells, tile_now, one_slot, seated_tiles, AreCopied, AreTileSeats, IsPatchOf}
use Rattle.tile_work.proofs.Seats.{found_at, left, others_stay, seats_count}
use Rattle.tile_work.proofs.Slots.{length-work, some_slot}
use Rattle.tile_work.proofs.Numbers.{ArePast, AreAhead, past_here, ahead_here, none_between, number_within}
use Rattle.tile_work.proofs.Pushing.{now_is, patch_none, patch_skip, still_tile, patch_pushed, above_pushed, patch_all}
use Rattle.tile_work.proofs.working.changed_tiles.Given.{Over}
use Rattle.tile_work.proofs.working.changed_tiles.Goals as goal
use Rattle.tile_work.proofs.working.changed_tiles.Goals.{Start, After-take-slot}

one_most : (o : Option Block) → one_slot o ≤ 1
one_most None = omega arith
one_most (Some b) = omega arith

-- tiles between copied ones stay
skip_to : (g : Over) (c : Start g) (k m n : ℕ) (tiles : List (ℕ × Block)) → m ≤ n → n ≤ tiles_in c.args.layer.now.size → ArePast c.args.numbers.now k m → AreAhead c.args.numbers.now k n → IsPatchOf c.args.layer.now.size (Some c.args.layer.now.cells) (work_cells c.args.layer.now.size c.args.layer.now.cells (seated_tiles c.args.tiles.items c.args.seats.now)) m tiles → IsPatchOf c.args.layer.now.size (Some c.args.layer.now.cells) (work_cells c.args.layer.now.size c.args.layer.now.cells (seated_tiles c.args.tiles.items c.args.seats.now)) n tiles
skip_to g c k m n tiles l within past ahead p =
    let s = c.args.layer.now.size in
    let old = c.args.layer.now.cells in
    let slots = seated_tiles c.args.tiles.items c.args.seats.now in
    patch_skip s (Some old) (work_cells s old slots) m n tiles l
    (λ t a b. (refl, still_tile s old slots t c.requires.work.size (omega (arith, b, within)) (none_between slots c.args.numbers.now k m n t c.requires.numbers past ahead a b)))
    p

pub loop-number-init : goal.loop-number-init
loop-number-init g c =
    let e = c.new-patch.ensures in
    let s = c.args.layer.now.size in
    record {
      size = ap (λ (p : PatchState). p.size) e ∙ c.extent.ensures.extent;
      seats = c.requires.seats;
      slots = λ t l. refl;
      above = λ n p. rw (e) (λ l. absurd (omega (arith, l)));
      patch = λ n w p a. rw (e) (skip_to g (goal.at.loop-number-init g c).Start 0 0 n [] (omega arith) w (λ j l. absurd (omega (arith, l))) a (patch_none s (Some c.args.layer.now.cells) (work_cells s c.args.layer.now.cells (seated_tiles c.args.tiles.items c.args.seats.now))));
      looks = rises_none _;
    }

-- a copied tile has its place among the seats
seat_there : (tiles : List (Option Block)) (seats numbers : List ℕ) (k : ℕ) → AreCopied (seated_tiles tiles seats) numbers → k < length numbers → get_or numbers k 0 < length seats
seat_there tiles seats numbers k a l = omega (arith, number_within (seated_tiles tiles seats) numbers k a l, seats_count None tiles seats)

pub index_mut-requires : goal.index_mut-requires
index_mut-requires g c =
    let l = seat_there c.args.tiles.items c.args.seats.now c.args.numbers.now c.loop-number.number-index c.requires.numbers c.loop-number-test.true in
    omega (arith, c.loop-number.tiles.ok.0, c.loop-number.invariant.seats.within (get_or c.args.numbers.now c.loop-number.number-index 0) l)

-- the slot is that of the working layer
slot_of : (g : Over) (c : After-take-slot g) → slot_at (seated_tiles c.args.tiles.items c.args.seats.now) (get_or c.args.numbers.now c.loop-number.number-index 0) ≡ c.take-slot.result
slot_of g c =
    let k = c.loop-number.number-index in
    let t = get_or c.args.numbers.now k 0 in
    sym (c.loop-number.invariant.slots t (past_here c.args.numbers.now c.requires.numbers.rises k c.loop-number-test.true))
    ∙ found_at None c.loop-number.tiles.items c.args.seats.now t c.index_mut.result.now c.loop-number.invariant.seats (seat_there c.args.tiles.items c.args.seats.now c.args.numbers.now k c.requires.numbers c.loop-number-test.true) c.index_mut.ensures.value ∙ sym c.take-slot.ensures.value

pub push_changed-requires-clause-slot : goal.push_changed-requires-clause-slot
push_changed-requires-clause-slot g c = some_slot c.args.layer.now.size (Some c.args.layer.now) (seated_tiles c.args.tiles.items c.args.seats.now) (get_or c.args.numbers.now c.loop-number.number-index 0) c.take-slot.result c.requires.work (slot_of g (goal.at.push_changed-requires-clause-slot g c).After-take-slot)

pub push_changed-requires-clause-above : goal.push_changed-requires-clause-above
push_changed-requires-clause-above g c = c.loop-number.invariant.above (get_or c.args.numbers.now c.loop-number.number-index 0) (past_here c.args.numbers.now c.requires.numbers.rises c.loop-number.number-index c.loop-number-test.true)

pub loop-number-preserved : goal.loop-number-preserved
loop-number-preserved g c =
    let d = (goal.at.loop-number-preserved g c).After-take-slot in
    let held = c.loop-number.tiles.items in
    let seats = c.args.seats.now in
    let there = seat_there c.args.tiles.items seats c.args.numbers.now c.loop-number.number-index c.requires.numbers c.loop-number-test.true in
    let s = c.args.layer.now.size in
    let old = c.args.layer.now.cells in
    let k = c.loop-number.number-index in
    let numbers = c.args.numbers.now in
    let t = get_or numbers k 0 in
    let up = c.requires.numbers.rises in
    let m = c.loop-number-test.true in
    let cells = work_cells s old (seated_tiles c.args.tiles.items c.args.seats.now) in
    let tiles = c.push_changed.new.patch.tiles in
    let here = past_here numbers up k m in
    let t_lt : t < tiles_in s = omega (arith, number_within (seated_tiles c.args.tiles.items c.args.seats.now) numbers k c.requires.numbers m, c.requires.work.count) in
    let pushed = c.in_ok-push_changed.ensures.ok in
    let now : tile_now s (Some old) t c.take-slot.result ≡ tile_block s cells t = now_is s (Some old) (seated_tiles c.args.tiles.items c.args.seats.now) t c.requires.work.size t_lt c.take-slot.result (slot_of g d) (λ b e. c.requires.work.sizes t b (slot_of g d ∙ e)) in
    let p : IsPatchOf s (Some old) cells (t + 1) tiles =
    patch_pushed s (Some old) cells t c.take-slot.result c.loop-number.patch.tiles tiles (c.loop-number.invariant.patch t (omega (arith, t_lt)) here (ahead_here numbers up k m)) now pushed in
    let above : IsAboveLast tiles (t + 1) = above_pushed s (Some old) t c.take-slot.result c.loop-number.patch.tiles tiles (c.loop-number.invariant.above t here) pushed in
    let past : ArePast numbers (k + 1) (t + 1) = λ j l. elim (cases_lt j k) as (λ _. get_or numbers j 0 < t + 1) [
      | inl q ↦ omega (arith, here j q)
      | inr q ↦ (let e : j ≡ k = omega (arith, l, q) in omega (arith, ap (λ x. get_or numbers x 0) e))
    ] in
    record {
      size = c.push_changed.ensures.size;
      seats = subst (λ x. AreTileSeats (slice_set held (get_or seats t 0) x) seats) (sym c.take-slot.ensures.after) (left None held seats c.loop-number.invariant.seats t there);
      slots = λ u q. ap (λ x. slot_at (seated_tiles (slice_set held (get_or seats t 0) x) seats) u) c.take-slot.ensures.after ∙ others_stay None held seats c.loop-number.invariant.seats t there u (λ e. omega (arith, e, q k (omega arith))) ∙ c.loop-number.invariant.slots u (λ j l. q j (omega (arith, l)));
      above = λ n q l. omega (arith, above l, q k (omega arith));
      patch = λ n w q a. skip_to g (goal.at.loop-number-preserved g c).Start (k + 1) (t + 1) n tiles (omega (arith, q k (omega arith))) w past a p;
      looks = rises_within (k + one_slot c.take-slot.result) (0 + 0) (k + 1) 0 _ _ (omega (arith, one_most c.take-slot.result)) (omega arith) (rises_then k 0 (one_slot c.take-slot.result) 0 _ _ _ c.loop-number.invariant.looks c.push_changed.ensures.look);
    }

pub returns-clause-patch : goal.returns-clause-patch
returns-clause-patch g c =
    let s = c.args.layer.now.size in
    let old = c.args.layer.now.cells in
    let numbers = c.args.numbers.now in
    let k = c.loop-number.number-index in
    let last : ArePast numbers k (tiles_in s) = λ j l. omega (arith, number_within (seated_tiles c.args.tiles.items c.args.seats.now) numbers j c.requires.numbers (omega (arith, l, c.loop-number.auto.number-index-end)), c.requires.work.count) in
    patch_all s (Some old) (work_cells s old (seated_tiles c.args.tiles.items c.args.seats.now)) c.loop-number.patch.tiles c.requires.work.size (length-work s old (seated_tiles c.args.tiles.items c.args.seats.now))
    (c.loop-number.invariant.patch (tiles_in s) (omega arith) last (λ j l m. absurd (omega (arith, l, m, c.loop-number-test.false))))
