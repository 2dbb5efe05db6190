use Rattle.std.proofs.Common.{◌≡◌, ◌+◌, ◌*◌, ◌/◌, ◌%◌, ◌<◌, ℕ, Vec, Global, [], true, get_or, sym, ap, subst, ◌∙◌, arith, length, List}
use Rattle.std.proofs.lemmas.List.{get_or-set_same, length-map, map-set, set-set}
use Rattle.std.specs.Prelude.{slice_set}
use Rattle.layer_tiles.specs.Tiles.{tiles_across}
use Rattle.tile_work.specs.PlaceSets.{PlaceSetState, words_at, lists_of, marks_of, seated_words, IsBegun, IsMarked, IsPlaceSet}
use Rattle.tile_work.specs.Seats.{AreSeats, seated}
use Rattle.tile_work.proofs.Marks.{IsSpot, spot, set_marks, place_set_on, marked_from, slot_words}
use Rattle.tile_work.proofs.Seats.{seat_is, seat_lt, seated_at, seats_count, seated_written, written}
use Rattle.tile_work.proofs.place_sets.PlaceSet.add_at.Goals as goal
use Rattle.tile_work.proofs.place_sets.PlaceSet.add_at.Goals.{After-self, After-tiles_across, In_ok-begin, After-index_mut, After-mark}

spot_of : (c : After-self) → IsSpot c.self.inside.extent c.args.row c.args.column
spot_of c =
    spot c.self.inside.extent c.args.row c.args.column c.self.invariant.0.size
    (subst (λ (p : PlaceSetState). c.args.row < p.size.rows) (sym c.self.view_is) c.requires.row)
    (subst (λ (p : PlaceSetState). c.args.column < p.size.columns) (sym c.self.view_is) c.requires.column)

pub overflow_mul-tile : goal.overflow_mul-tile
overflow_mul-tile c = omega (arith, (spot_of (goal.at.overflow_mul-tile c).After-self).fits, ap (λ a. c.args.row / 32 * a) c.tiles_across.ensures.across)

pub overflow_add-tile : goal.overflow_add-tile
overflow_add-tile c = omega (arith, (spot_of (goal.at.overflow_add-tile c).After-self).fits, ap (λ a. c.args.row / 32 * a) c.tiles_across.ensures.across, c.ranges.column.fits)

tile_lt : (c : After-tiles_across) → c.args.row / 32 * c.tiles_across.result + c.args.column / 32 < length c.self.inside.seats.items
tile_lt c =
    let w = spot_of (goal.at.After-tiles_across c).After-self in
    omega (arith, w.tile_lt, ap (λ a. c.args.row / 32 * a) c.tiles_across.ensures.across, c.self.invariant.0.count, seats_count [] (lists_of c.self.inside.words.items) c.self.inside.seats.items)

pub begin-requires-clause-within : goal.begin-requires-clause-within
begin-requires-clause-within c = tile_lt (goal.at.begin-requires-clause-within c).After-tiles_across

begun : (c : In_ok-begin) → IsBegun c.self.inside.words.items c.self.inside.seats.items (c.args.row / 32 * c.tiles_across.result + c.args.column / 32) c.begin.new.words.items c.begin.new.seats.items
begun c = c.in_ok-begin.ensures.ok

seat_there : (c : In_ok-begin) → c.args.row / 32 * c.tiles_across.result + c.args.column / 32 < length c.begin.new.seats.items
seat_there c = omega (arith, tile_lt (goal.at.In_ok-begin c).After-tiles_across, (begun c).count)

-- the words that are marked
words_are : (c : After-index_mut) → c.index_mut.result.now.items ≡ (begun (goal.at.After-index_mut c).In_ok-begin).now
words_are c =
    let e = (goal.at.After-index_mut c).In_ok-begin in
    let b = begun e in
    let t = c.args.row / 32 * c.tiles_across.result + c.args.column / 32 in
    let seats = c.begin.new.seats.items in
    let lists = lists_of c.begin.new.words.items in
    let l = seat_there e in
    let m : c.index-seat.result.now < length c.begin.new.words.items = omega (arith, seat_lt [] lists seats t c.index-seat.result.now b.are_seats l c.index-seat.ensures, length-map c.begin.new.words.items (λ v. v.items)) in
    let before = seated_words c.self.inside.words.items c.self.inside.seats.items in
    sym (seated_at [] lists seats t l
    ∙ ap (λ k. get_or lists k []) (sym (seat_is seats t c.index-seat.result.now l c.index-seat.ensures))
    ∙ slot_words (λ (v : Vec ℕ Global). v.items) c.begin.new.words.items c.index-seat.result.now c.index_mut.result.now m c.index_mut.ensures.value)
    ∙ ap (λ slots. words_at slots t) b.is
    ∙ get_or-set_same before t b.now [] (omega (arith, tile_lt (goal.at.In_ok-begin e).After-tiles_across, seats_count [] (lists_of c.self.inside.words.items) c.self.inside.seats.items))

pub mark-requires-clause-words : goal.mark-requires-clause-words
mark-requires-clause-words c =
    let d = (goal.at.mark-requires-clause-words c).After-index_mut in
    ap (λ ws. length ws) (words_are d) ∙ (begun (goal.at.After-index_mut d).In_ok-begin).long

marked : (c : After-mark) → IsMarked (words_at (seated_words c.self.inside.words.items c.self.inside.seats.items) (c.args.row / 32 * tiles_across c.self.inside.extent + c.args.column / 32)) (c.args.row % 32) (c.args.column % 32) c.mark.new.words.items
marked c =
    let d = (goal.at.After-mark c).After-index_mut in
    let b = begun (goal.at.After-index_mut d).In_ok-begin in
    let slots = seated_words c.self.inside.words.items c.self.inside.seats.items in
    let old = words_at slots (c.args.row / 32 * c.tiles_across.result + c.args.column / 32) in
    let P : List ℕ → Type 0 = λ ws. IsMarked ws (c.args.row % 32) (c.args.column % 32) c.mark.new.words.items in
    let here : P old = marked_from b.now old c.mark.new.words.items (c.args.row % 32) (c.args.column % 32) b.same (subst P (words_are d) c.mark.ensures) in
    subst P (ap (λ a. words_at slots (c.args.row / 32 * a + c.args.column / 32)) c.tiles_across.ensures.across) here

-- the lists after the mark, by the seat
lists_now : (c : After-mark) → lists_of (slice_set c.begin.new.words.items c.index-seat.result.now c.mark.new.words) ≡ slice_set (lists_of c.begin.new.words.items) c.index-seat.result.now c.mark.new.words.items
lists_now c = map-set (λ (v : Vec ℕ Global). v.items) c.begin.new.words.items c.index-seat.result.now c.mark.new.words

seat_of : (c : After-mark) → c.index-seat.result.now ≡ get_or c.begin.new.seats.items (c.args.row / 32 * c.tiles_across.result + c.args.column / 32) 0
seat_of c = let e = (goal.at.After-index_mut (goal.at.After-mark c).After-index_mut).In_ok-begin in seat_is c.begin.new.seats.items (c.args.row / 32 * c.tiles_across.result + c.args.column / 32) c.index-seat.result.now (seat_there e) c.index-seat.ensures

slots_now : (c : After-mark) → seated_words (slice_set c.begin.new.words.items c.index-seat.result.now c.mark.new.words) c.begin.new.seats.items ≡ slice_set (seated_words c.self.inside.words.items c.self.inside.seats.items) (c.args.row / 32 * tiles_across c.self.inside.extent + c.args.column / 32) c.mark.new.words.items
slots_now c =
    let e = (goal.at.After-index_mut (goal.at.After-mark c).After-index_mut).In_ok-begin in
    let b = begun e in
    let t = c.args.row / 32 * c.tiles_across.result + c.args.column / 32 in
    let seats = c.begin.new.seats.items in
    let lists = lists_of c.begin.new.words.items in
    let new = c.mark.new.words.items in
    let slots = seated_words c.self.inside.words.items c.self.inside.seats.items in
    ap (λ ls. seated [] ls seats) (lists_now c ∙ ap (λ n. slice_set lists n new) (seat_of c))
    ∙ seated_written [] lists seats b.are_seats t (seat_there e) new b.own
    ∙ ap (λ (xs : List (List ℕ)). slice_set xs t new) b.is
    ∙ set-set slots t b.now new
    ∙ ap (λ a. slice_set slots (c.args.row / 32 * a + c.args.column / 32) new) c.tiles_across.ensures.across

pub invariant_of-self-2 : goal.invariant_of-self-2
invariant_of-self-2 c =
    let d = (goal.at.invariant_of-self-2 c).After-mark in
    let e = (goal.at.After-index_mut (goal.at.After-mark d).After-index_mut).In_ok-begin in
    let b = begun e in
    let w = spot_of (goal.at.invariant_of-self-2 c).After-self in
    let t = c.args.row / 32 * c.tiles_across.result + c.args.column / 32 in
    let lists = lists_of c.begin.new.words.items in
    let P : List (List ℕ) → Type 0 = IsPlaceSet c.self.inside.extent in
    let Q : List (List ℕ) → Type 0 = λ ls. AreSeats [] ls c.begin.new.seats.items in (
      subst P (sym (slots_now d)) (place_set_on c.self.inside.extent (seated_words c.self.inside.words.items c.self.inside.seats.items) (c.args.row / 32 * tiles_across c.self.inside.extent + c.args.column / 32) c.mark.new.words.items c.self.invariant.0 w.tile_lt (marked d).words),
      subst Q (sym (lists_now d ∙ ap (λ n. slice_set lists n c.mark.new.words.items) (seat_of d))) (written [] lists c.begin.new.seats.items b.are_seats t (seat_there e) c.mark.new.words.items b.own),
    )

pub returns-clause-ok : goal.returns-clause-ok
returns-clause-ok c =
    let d = (goal.at.returns-clause-ok c).After-mark in
    let s = c.self.inside.extent in
    let row : c.args.row < s.rows = subst (λ (p : PlaceSetState). c.args.row < p.size.rows) (sym c.self.view_is) c.requires.row in
    let column : c.args.column < s.columns = subst (λ (p : PlaceSetState). c.args.column < p.size.columns) (sym c.self.view_is) c.requires.column in
    ap (λ slots. record { size = s; marks = marks_of s slots }) (slots_now d)
    ∙ ap (λ ms. record { size = s; marks = ms }) (set_marks s (seated_words c.self.inside.words.items c.self.inside.seats.items) c.args.row c.args.column c.mark.new.words.items c.self.invariant.0 row column (marked d))
    ∙ ap (λ (p : PlaceSetState). record p { marks = slice_set p.marks (c.args.row * p.size.columns + c.args.column) true }) c.self.view_is
