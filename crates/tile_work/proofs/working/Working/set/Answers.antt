use Rattle.std.proofs.Common.{◌≡◌, ◌<◌, ℕ, true, Some, None, get_or, sym, ap, subst, ◌∙◌, arith, length, map, List, Option}
use Rattle.std.specs.Prelude.{is_some, slice_set}
use Rattle.std.specs.Option.{option_copied}
use Rattle.std.proofs.lemmas.Bool.{both_ways}
use Rattle.std.proofs.lemmas.List.{length-map}
use Rattle.map_nums.specs.Grids.{Size, cells_in}
use Rattle.layer_tiles.specs.Tiles.{Block, IsBlockOf, tiles_in, tile_of, place_in}
use Rattle.layer_tiles.proofs.Rounds.{back}
use Rattle.tile_work.specs.Working.{WorkState, IsWork, AreCopied, base_of, before_of, AreTileSeats, slot_at, work_cells, copies, seated_tiles}
use Rattle.tile_work.proofs.Seats.{found, seat_is, seat_lt, seated_written, seats_count, taken, written}
use Rattle.tile_work.proofs.Numbers.{copied_again}
use Rattle.tile_work.proofs.Slots.{slot_some, set_work, set_some, work_put, put_size}
use Rattle.tile_work.proofs.working.Working.set.Given.{Over}
use Rattle.tile_work.proofs.working.Working.set.Goals as goal
use Rattle.tile_work.proofs.working.Working.set.Goals.{After-tile_of-tile, After-self-2, After-index_mut, In-Some}

within : (g : Over) (c : After-tile_of-tile g) → c.args.at < cells_in c.self.inside.extent
within g c = subst (λ (w : WorkState). c.args.at < cells_in w.size) (sym c.self.view_is) c.requires

pub copy_tile-requires : goal.copy_tile-requires
copy_tile-requires g c =
    let d = (goal.at.copy_tile-requires g c).After-tile_of-tile in
    subst (λ (w : WorkState). c.tile_of-tile.result < tiles_in w.size) c.self.view_is (rw (c.tile_of-tile.ensures) (back c.self.inside.extent c.args.at c.self.invariant.0.size (within g d)).tile)

-- the extent stays
size_is : (g : Over) (c : After-self-2 g) → c.self-2.inside.extent ≡ c.self.inside.extent
size_is g c = ap (λ (w : WorkState). w.size) c.self-2.view_is ∙ ap (λ (w : WorkState). w.size) c.in_ok-copy_tile.ensures.ok ∙ ap (λ (w : WorkState). w.size) (sym c.self.view_is)

within_too : (g : Over) (c : After-self-2 g) → c.args.at < cells_in c.self-2.inside.extent
within_too g c = subst (λ (s : Size). c.args.at < cells_in s) (sym (size_is g c)) (within g (goal.at.After-self-2 g c).After-tile_of-tile)

tile_is : (g : Over) (c : After-self-2 g) → c.tile_of-tile.result ≡ tile_of c.self-2.inside.extent c.args.at
tile_is g c = c.tile_of-tile.ensures ∙ ap (λ (s : Size). tile_of s c.args.at) (sym (size_is g c))

tile_lt : (g : Over) (c : After-self-2 g) → c.tile_of-tile.result < length (seated_tiles c.self-2.inside.tiles.items c.self-2.inside.seats.items)
tile_lt g c = rw (tile_is g c, c.self-2.invariant.0.count) (back c.self-2.inside.extent c.args.at c.self-2.invariant.0.size (within_too g c)).tile

seat_there : (g : Over) (c : After-self-2 g) → c.tile_of-tile.result < length c.self-2.inside.seats.items
seat_there g c = omega (arith, tile_lt g c, seats_count None c.self-2.inside.tiles.items c.self-2.inside.seats.items)

pub index-seat-requires : goal.index-seat-requires
index-seat-requires g c = rw (c.self-2.inside.seats.ok.0) (seat_there g (goal.at.index-seat-requires g c).After-self-2)

pub index_mut-requires : goal.index_mut-requires
index_mut-requires g c = rw (c.self-2.inside.tiles.ok.0) (seat_lt None c.self-2.inside.tiles.items c.self-2.inside.seats.items c.tile_of-tile.result c.index-seat.result.now c.self-2.invariant.2 (seat_there g (goal.at.index_mut-requires g c).After-self-2) c.index-seat.ensures)

slot_here : (g : Over) (c : After-index_mut g) → slot_at (seated_tiles c.self-2.inside.tiles.items c.self-2.inside.seats.items) c.tile_of-tile.result ≡ c.index_mut.result.now
slot_here g c = found None c.self-2.inside.tiles.items c.self-2.inside.seats.items c.tile_of-tile.result c.index-seat.result.now c.index_mut.result.now c.self-2.invariant.2 (seat_there g (goal.at.After-index_mut g c).After-self-2) c.index-seat.ensures c.index_mut.ensures.value

-- the tile that is written
tile_here : (g : Over) (c : In-Some g) → slot_at (seated_tiles c.self-2.inside.tiles.items c.self-2.inside.seats.items) c.tile_of-tile.result ≡ Some c.in-Some.cells
tile_here g c = slot_here g (goal.at.In-Some g c).After-index_mut ∙ c.in-Some.is

seat_at_tile : (g : Over) (c : In-Some g) → c.index-seat.result.now ≡ get_or c.self-2.inside.seats.items c.tile_of-tile.result 0
seat_at_tile g c = seat_is c.self-2.inside.seats.items c.tile_of-tile.result c.index-seat.result.now (seat_there g (goal.at.In-Some g c).After-self-2) c.index-seat.ensures

own_seat : (g : Over) (c : In-Some g) → 0 < get_or c.self-2.inside.seats.items c.tile_of-tile.result 0
own_seat g c = taken None c.self-2.inside.tiles.items c.self-2.inside.seats.items c.tile_of-tile.result c.self-2.invariant.2 (seat_there g (goal.at.In-Some g c).After-self-2) (λ none. let e = sym (tile_here g c) ∙ none in cc)

tile_at : (g : Over) (c : In-Some g) → slot_at (seated_tiles c.self-2.inside.tiles.items c.self-2.inside.seats.items) (tile_of c.self-2.inside.extent c.args.at) ≡ Some c.in-Some.cells
tile_at g c = ap (slot_at (seated_tiles c.self-2.inside.tiles.items c.self-2.inside.seats.items)) (sym (tile_is g (goal.at.In-Some g c).After-self-2)) ∙ tile_here g c

-- the tiles after the write
tiles_now : (g : Over) (c : In-Some g) (new : Block) → seated_tiles (slice_set c.self-2.inside.tiles.items c.index-seat.result.now (Some new)) c.self-2.inside.seats.items ≡ slice_set (seated_tiles c.self-2.inside.tiles.items c.self-2.inside.seats.items) c.tile_of-tile.result (Some new)
tiles_now g c new =
    ap (λ n. seated_tiles (slice_set c.self-2.inside.tiles.items n (Some new)) c.self-2.inside.seats.items) (seat_at_tile g c)
    ∙ seated_written None c.self-2.inside.tiles.items c.self-2.inside.seats.items c.self-2.invariant.2 c.tile_of-tile.result (seat_there g (goal.at.In-Some g c).After-self-2) (Some new) (own_seat g c)

pub set_in-requires-clause-size : goal.set_in-requires-clause-size
set_in-requires-clause-size g c = c.self-2.invariant.0.sizes (tile_of c.self-2.inside.extent c.args.at) c.in-Some.cells (tile_at g (goal.at.set_in-requires-clause-size g c).In-Some)

copied_is : (g : Over) (c : After-self-2 g) → map is_some (seated_tiles c.self-2.inside.tiles.items c.self-2.inside.seats.items) ≡ slice_set (map is_some (seated_tiles c.self.inside.tiles.items c.self.inside.seats.items)) c.tile_of-tile.result true
copied_is g c = ap (λ (w : WorkState). w.copied) c.self-2.view_is ∙ ap (λ (w : WorkState). w.copied) c.in_ok-copy_tile.ensures.ok ∙ ap (λ (w : WorkState). slice_set w.copied c.tile_of-tile.result true) (sym c.self.view_is)

pub unreachable-requires : goal.unreachable-requires
unreachable-requires g c =
    let d = (goal.at.unreachable-requires g c).After-self-2 in
    let slots = seated_tiles c.self-2.inside.tiles.items c.self-2.inside.seats.items in
    let before = seated_tiles c.self.inside.tiles.items c.self.inside.seats.items in
    let n : length (map is_some before) ≡ length slots = length-map before is_some ∙ c.self.invariant.0.count ∙ ap tiles_in (sym (size_is g d)) ∙ sym c.self-2.invariant.0.count in
    let some = slot_some slots (map is_some before) c.tile_of-tile.result (tile_lt g d) n (copied_is g d) in
    both_ways (is_some (slot_at slots c.tile_of-tile.result)) (ap is_some (slot_here g (goal.at.unreachable-requires g c).After-index_mut ∙ c.in-None.is)) some

pub invariant_of-self : goal.invariant_of-self
invariant_of-self g c =
    let d = (goal.at.invariant_of-self g c).After-self-2 in
    let e = (goal.at.invariant_of-self g c).In-Some in
    let s = c.self-2.inside.extent in
    let slots = seated_tiles c.self-2.inside.tiles.items c.self-2.inside.seats.items in
    let b = c.in-Some.cells in
    let new = c.set_in.new.tile in
    let P : List (Option Block) → Type 0 = IsWork s (option_copied c.self-2.inside.base) in
    let Q : List (Option Block) → Type 0 = λ xs. AreCopied xs c.self-2.inside.numbers.items in
    let R : ℕ → Type 0 = λ n. AreTileSeats (slice_set c.self-2.inside.tiles.items n (Some new)) c.self-2.inside.seats.items in
    let z = c.self-2.invariant.0.sizes (tile_of s c.args.at) b (tile_at g e) in
    let y : IsBlockOf s c.tile_of-tile.result new = rw (tile_is g d) (put_size s (tile_of s c.args.at) b new (place_in s c.args.at) c.args.cell c.set_in.ensures z) in (
      subst P (sym (tiles_now g e new)) (work_put s (option_copied c.self-2.inside.base) slots c.tile_of-tile.result new c.self-2.invariant.0 (tile_lt g d) y),
      subst Q (sym (tiles_now g e new)) (copied_again slots c.self-2.inside.numbers.items c.tile_of-tile.result b new (tile_lt g d) (tile_here g e) c.self-2.invariant.1),
      subst R (sym (seat_at_tile g e)) (written None c.self-2.inside.tiles.items c.self-2.inside.seats.items c.self-2.invariant.2 c.tile_of-tile.result (seat_there g d) (Some new) (own_seat g e)),
    )

pub returns-clause-ok : goal.returns-clause-ok
returns-clause-ok g c =
    let d = (goal.at.returns-clause-ok g c).After-self-2 in
    let e = (goal.at.returns-clause-ok g c).In-Some in
    let s = c.self-2.inside.extent in
    let before = before_of (option_copied c.self-2.inside.base) in
    let slots = seated_tiles c.self-2.inside.tiles.items c.self-2.inside.seats.items in
    let b = c.in-Some.cells in
    let new = c.set_in.new.tile in
    let z = c.self-2.invariant.0.sizes (tile_of s c.args.at) b (tile_at g e) in
    let tile = tile_is g d in
    let cells : work_cells s (base_of before) (slice_set slots c.tile_of-tile.result (Some new)) ≡ slice_set (work_cells s (base_of before) slots) c.args.at c.args.cell =
    rw (tile, c.set_in.ensures) (set_work s (base_of before) slots c.args.at c.self-2.invariant.0.size (within_too g d) c.self-2.invariant.0.count b c.args.cell (tile_at g e) z) in
    let copied : map is_some (slice_set slots c.tile_of-tile.result (Some new)) ≡ map is_some slots = set_some slots c.tile_of-tile.result b new (tile_lt g d) (tile_here g e) in
    ap (λ xs. record { size = s; before = before; cells = work_cells s (base_of before) xs; copied = map is_some xs }) (tiles_now g e new)
    ∙ ap (λ xs. record { size = s; before = before; cells = xs; copied = map is_some (slice_set slots c.tile_of-tile.result (Some new)) }) cells
    ∙ ap (λ xs. record { size = s; before = before; cells = slice_set (work_cells s (base_of before) slots) c.args.at c.args.cell; copied = xs }) copied
    ∙ ap (λ (w : WorkState). record w { cells = slice_set w.cells c.args.at c.args.cell }) (c.self-2.view_is ∙ c.in_ok-copy_tile.ensures.ok)
    ∙ ap (λ t. record c.args.self.now { cells = slice_set c.args.self.now.cells c.args.at c.args.cell; copied = slice_set c.args.self.now.copied t true }) (c.tile_of-tile.ensures ∙ ap (λ (w : WorkState). tile_of w.size c.args.at) c.self.view_is)

-- the tiles that are copied are those after the copy
copies_now : (g : Over) (c : In-Some g) (new : Block) → copies (map is_some (seated_tiles (slice_set c.self-2.inside.tiles.items c.index-seat.result.now (Some new)) c.self-2.inside.seats.items)) ≡ copies c.copy_tile.new.self.copied
copies_now g c new =
    ap copies (ap (map is_some) (tiles_now g c new) ∙ set_some (seated_tiles c.self-2.inside.tiles.items c.self-2.inside.seats.items) c.tile_of-tile.result c.in-Some.cells new (tile_lt g (goal.at.In-Some g c).After-self-2) (tile_here g c) ∙ ap (λ (w : WorkState). w.copied) c.self-2.view_is)

pub returns-clause-more : goal.returns-clause-more
returns-clause-more g c = omega (arith, c.copy_tile.ensures.more, copies_now g (goal.at.returns-clause-more g c).In-Some c.set_in.new.tile)

pub returns-clause-look : goal.returns-clause-look
returns-clause-look g c = rw (copies_now g (goal.at.returns-clause-look g c).In-Some c.set_in.new.tile) c.in_ok-copy_tile.ensures.look
