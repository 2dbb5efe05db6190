use Rattle.std.proofs.Common.{◌≡◌, ◌+◌, ◌++◌, ◌∷◌, ◌<◌, [], true, false, Some, None, sym, ap, subst, ◌∙◌, arith, length, map, get_or, List, ℕ, Option}
use Rattle.std.specs.Prelude.{is_some, slice_set}
use Rattle.std.specs.Option.{option_copied}
use Rattle.layer_tiles.specs.Tiles.{Block, IsBlockOf, tile_block, tiles_in}
use Rattle.std.proofs.lemmas.List.{get_or-map, length-map}
use Rattle.std.proofs.lemmas.Result.{MatchResult-from_err}
use Rattle.layer_tiles.proofs.Rising.{rises_within}
use Rattle.layer_tiles.proofs.Whole.{tile_block_is}
use Rattle.tile_work.specs.Working.{WorkState, IsWork, AreCopied, base_of, before_of, AreTileSeats, slot_at, work_cells, copies, seated_tiles}
use Rattle.tile_work.proofs.Seats.{added, found, more_seats, seated_added, seated_more, seats_count}
use Rattle.tile_work.proofs.Numbers.{copied_one}
use Rattle.tile_work.proofs.Slots.{copied_some, copied_set, copies_set, copy_work, work_put, is_none}
use Rattle.tile_work.proofs.working.Working.copy_tile.Given.{Over}
use Rattle.tile_work.proofs.working.Working.copy_tile.Goals as goal
use Rattle.tile_work.proofs.working.Working.copy_tile.Goals.{After-index, After-index-2, In_ok-copy, In_ok-push}

tile_lt : (g : Over) (c : After-index g) → c.args.tile < length (seated_tiles c.self.inside.tiles.items c.self.inside.seats.items)
tile_lt g c = rw (c.self.invariant.0.count) (subst (λ (w : WorkState). c.args.tile < tiles_in w.size) (sym c.self.view_is) c.requires)

seat_there : (g : Over) (c : After-index g) → c.args.tile < length c.self.inside.seats.items
seat_there g c = omega (arith, tile_lt g c, seats_count None c.self.inside.tiles.items c.self.inside.seats.items)

slot_here : (g : Over) (c : After-index-2 g) → slot_at (seated_tiles c.self.inside.tiles.items c.self.inside.seats.items) c.args.tile ≡ c.index-2.result.now
slot_here g c = found None c.self.inside.tiles.items c.self.inside.seats.items c.args.tile c.index.result.now c.index-2.result.now c.self.invariant.2 (seat_there g (goal.at.After-index-2 g c).After-index) c.index.ensures c.index-2.ensures

empty_here : (g : Over) (c : After-index-2 g) → is_some c.index-2.result.now ≡ false → slot_at (seated_tiles c.self.inside.tiles.items c.self.inside.seats.items) c.args.tile ≡ None
empty_here g c e = slot_here g c ∙ is_none c.index-2.result.now e

pub returns-then-is_some-clause-ok : goal.returns-then-is_some-clause-ok
returns-then-is_some-clause-ok g c =
    let d = (goal.at.returns-then-is_some-clause-ok g c).After-index-2 in
    let e = copied_some (seated_tiles c.self.inside.tiles.items c.self.inside.seats.items) c.args.tile c.index-2.result.now (tile_lt g (goal.at.After-index-2 g d).After-index) (slot_here g d) (sym c.if-is_some.ensures) in
    let v = c.self.view_is in
    ap (λ xs. record c.args.self.now { copied = xs }) (ap (λ (w : WorkState). w.copied) (sym v) ∙ sym e ∙ ap (λ (w : WorkState). slice_set w.copied c.args.tile true) v)

block_here : (g : Over) (c : In_ok-copy g) → c.in_ok-copy.copy ≡ tile_block c.self.inside.extent (base_of (before_of (option_copied c.self.inside.base))) c.args.tile
block_here g c = c.in_ok-copy.ensures.tile ∙ ap (λ (w : WorkState). tile_block w.size (base_of w.before) c.args.tile) (sym c.self.view_is)

-- the copy stands after the others, at first without a seat
unseated : (g : Over) (c : In_ok-push g) → seated_tiles c.push.new.self.items c.self.inside.seats.items ≡ seated_tiles c.self.inside.tiles.items c.self.inside.seats.items
unseated g c = ap (λ xs. seated_tiles xs c.self.inside.seats.items) c.in_ok-push.ensures.items ∙ seated_more None c.self.inside.tiles.items c.self.inside.seats.items (Some c.in_ok-copy.copy) c.self.invariant.2

pub invariant_of-self-in_err-add_number : goal.invariant_of-self-in_err-add_number
invariant_of-self-in_err-add_number g c =
    let d = (goal.at.invariant_of-self-in_err-add_number g c).In_ok-push in
    let seats = c.self.inside.seats.items in
    let P : List (Option Block) → Type 0 = IsWork c.self.inside.extent (option_copied c.self.inside.base) in
    let Q : List (Option Block) → List ℕ → Type 0 = AreCopied in
    let R : List (Option Block) → Type 0 = λ xs. AreTileSeats xs seats in (
      subst P (sym (unseated g d)) c.self.invariant.0,
      subst (λ xs. Q xs c.add_number.new.numbers.items) (sym (unseated g d)) (subst (Q (seated_tiles c.self.inside.tiles.items c.self.inside.seats.items)) (sym c.in_err-add_number.ensures.err) c.self.invariant.1),
      subst R (sym c.in_ok-push.ensures.items) (more_seats None c.self.inside.tiles.items seats (Some c.in_ok-copy.copy) c.self.invariant.2),
    )

pub returns-in_err-add_number-clause-err : goal.returns-in_err-add_number-clause-err
returns-in_err-add_number-clause-err g c =
    let before = before_of (option_copied c.self.inside.base) in
    MatchResult-from_err c.from_residual-in_err-add_number.result _ _ c.from_residual-in_err-add_number.ensures.0
    (λ _. ap (λ xs. record { size = c.self.inside.extent; before = before; cells = work_cells c.self.inside.extent (base_of before) xs; copied = map is_some xs }) (unseated g (goal.at.returns-in_err-add_number-clause-err g c).In_ok-push) ∙ c.self.view_is)

pub returns-in_err-add_number-clause-more : goal.returns-in_err-add_number-clause-more
returns-in_err-add_number-clause-more g c = omega (arith, ap (λ (xs : List (Option Block)). copies (map is_some xs)) (unseated g (goal.at.returns-in_err-add_number-clause-more g c).In_ok-push), ap (λ (w : WorkState). copies w.copied) c.self.view_is)

-- and then with its own
seat_is : (g : Over) (c : In_ok-push g) → c.len-seat.result ≡ length c.self.inside.tiles.items
seat_is g c = c.len-seat.ensures ∙ c.self.inside.tiles.ok.0

tiles_here : (g : Over) (c : In_ok-push g) → seated_tiles c.push.new.self.items (slice_set c.self.inside.seats.items c.args.tile c.len-seat.result) ≡ slice_set (seated_tiles c.self.inside.tiles.items c.self.inside.seats.items) c.args.tile (Some c.in_ok-copy.copy)
tiles_here g c =
    let tiles = c.self.inside.tiles.items in
    let seats = c.self.inside.seats.items in
    ap (λ xs. seated_tiles xs (slice_set seats c.args.tile c.len-seat.result)) c.in_ok-push.ensures.items
    ∙ ap (λ n. seated_tiles (tiles ++ Some c.in_ok-copy.copy ∷ []) (slice_set seats c.args.tile n)) (seat_is g c)
    ∙ seated_added None tiles seats c.self.invariant.2 c.args.tile (seat_there g (goal.at.In_ok-push g c).After-index) (Some c.in_ok-copy.copy)

pub invariant_of-self-2 : goal.invariant_of-self-2
invariant_of-self-2 g c =
    let d = (goal.at.invariant_of-self-2 g c).In_ok-copy in
    let i = (goal.at.invariant_of-self-2 g c).After-index in
    let j = (goal.at.invariant_of-self-2 g c).After-index-2 in
    let s = c.self.inside.extent in
    let b = (goal.at.invariant_of-self-2 g c).In_ok-push in
    let tiles = c.self.inside.tiles.items in
    let seats = c.self.inside.seats.items in
    let slots = seated_tiles tiles seats in
    let P : List (Option Block) → Type 0 = IsWork s (option_copied c.self.inside.base) in
    let Q : List (Option Block) → Type 0 = λ xs. AreCopied xs c.add_number.new.numbers.items in
    let R : List (Option Block) → ℕ → Type 0 = λ xs n. AreTileSeats xs (slice_set seats c.args.tile n) in
    let z : IsBlockOf s c.args.tile c.in_ok-copy.copy = rw (block_here g d) (tile_block_is s (base_of (before_of (option_copied c.self.inside.base))) c.args.tile) in (
      subst P (sym (tiles_here g b)) (work_put s (option_copied c.self.inside.base) slots c.args.tile c.in_ok-copy.copy c.self.invariant.0 (tile_lt g i) z),
      subst Q (sym (tiles_here g b)) (copied_one slots c.self.inside.numbers.items c.add_number.new.numbers.items c.args.tile c.in_ok-copy.copy (tile_lt g i) (empty_here g j (sym c.if-is_some.ensures)) c.self.invariant.1 c.in_ok-add_number.ensures.ok),
      subst (λ xs. R xs c.len-seat.result) (sym c.in_ok-push.ensures.items) (subst (R (tiles ++ Some c.in_ok-copy.copy ∷ [])) (sym (seat_is g b)) (added None tiles seats c.self.invariant.2 c.args.tile (seat_there g i) (Some c.in_ok-copy.copy))),
    )

pub returns-clause-ok : goal.returns-clause-ok
returns-clause-ok g c =
    let d = (goal.at.returns-clause-ok g c).In_ok-copy in
    let i = (goal.at.returns-clause-ok g c).After-index in
    let j = (goal.at.returns-clause-ok g c).After-index-2 in
    let s = c.self.inside.extent in
    let before = before_of (option_copied c.self.inside.base) in
    let slots = seated_tiles c.self.inside.tiles.items c.self.inside.seats.items in
    let cells : work_cells s (base_of before) (slice_set slots c.args.tile (Some c.in_ok-copy.copy)) ≡ work_cells s (base_of before) slots =
    ap (λ (b : Block). work_cells s (base_of before) (slice_set slots c.args.tile (Some b))) (block_here g d) ∙ copy_work s (base_of before) slots c.args.tile c.self.invariant.0.size (tile_lt g i) (empty_here g j (sym c.if-is_some.ensures)) in
    ap (λ xs. record { size = s; before = before; cells = work_cells s (base_of before) xs; copied = map is_some xs }) (tiles_here g (goal.at.returns-clause-ok g c).In_ok-push)
    ∙ ap (λ xs. record { size = s; before = before; cells = xs; copied = map is_some (slice_set slots c.args.tile (Some c.in_ok-copy.copy)) }) cells
    ∙ ap (λ xs. record { size = s; before = before; cells = work_cells s (base_of before) slots; copied = xs }) (copied_set slots c.args.tile c.in_ok-copy.copy)
    ∙ ap (λ (w : WorkState). record w { copied = slice_set w.copied c.args.tile true }) c.self.view_is

more_copies : (g : Over) (c : In_ok-push g) → is_some c.index-2.result.now ≡ false → copies (map is_some (seated_tiles c.push.new.self.items (slice_set c.self.inside.seats.items c.args.tile c.len-seat.result))) ≡ copies c.args.self.now.copied + 1
more_copies g c none =
    let i = (goal.at.In_ok-push g c).After-index in
    let j = (goal.at.In_ok-push g c).After-index-2 in
    let slots = seated_tiles c.self.inside.tiles.items c.self.inside.seats.items in
    let not_yet : get_or (map is_some slots) c.args.tile false ≡ false = get_or-map is_some slots c.args.tile None false (tile_lt g i) ∙ ap is_some (empty_here g j none) in
    ap copies (ap (map is_some) (tiles_here g c) ∙ copied_set slots c.args.tile c.in_ok-copy.copy)
    ∙ copies_set (map is_some slots) c.args.tile (omega (arith, tile_lt g i, length-map slots is_some)) not_yet
    ∙ ap (λ (w : WorkState). copies w.copied + 1) c.self.view_is

pub returns-clause-more : goal.returns-clause-more
returns-clause-more g c = omega (arith, more_copies g (goal.at.returns-clause-more g c).In_ok-push (sym c.if-is_some.ensures))

pub returns-clause-look : goal.returns-clause-look
returns-clause-look g c = rises_within 1 0 _ 0 _ _ (omega (arith, more_copies g (goal.at.returns-clause-look g c).In_ok-push (sym c.if-is_some.ensures))) (omega arith) c.in_ok-copy.ensures.look
