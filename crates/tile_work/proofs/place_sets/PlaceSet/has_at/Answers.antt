use Rattle.std.proofs.Common.{◌≡◌, ◌+◌, ◌*◌, ◌/◌, ◌%◌, ◌<◌, ◌≤◌, ℕ, [], get_or, eqb, nat_lt, Vec, Global, false, sym, ap, subst, ◌∙◌, arith, length}
use Rattle.std.proofs.lemmas.List.{length-map, get_or_default}
use Rattle.std.specs.Int.{bit_at}
use Rattle.std.proofs.lemmas.Bool.{ltb-true}
use Rattle.std.proofs.lemmas.Bool.Decides.{nat_tests}
use Rattle.std.proofs.lemmas.Nat.Bits.{shr_and_one}
use Rattle.tile_work.specs.PlaceSets.{PlaceSetState, lists_of, mark_in, seated_words, words_at}
use Rattle.tile_work.proofs.Marks.{IsSpot, spot, mark_here, unmarked, slot_words}
use Rattle.tile_work.proofs.Seats.{seat_is, seat_lt, seated_at, seats_count}
use Rattle.tile_work.proofs.place_sets.PlaceSet.has_at.Goals as goal
use Rattle.tile_work.proofs.place_sets.PlaceSet.has_at.Goals.{After-self, After-tiles_across, After-index-seat, After-deref}

spot_of : (c : After-self) → IsSpot c.self.inside.extent c.args.row c.args.column
spot_of c =
    spot c.self.inside.extent c.args.row c.args.column c.self.invariant.0.size
    (subst (λ (p : PlaceSetState). c.args.row < p.size.rows) (sym c.self.view_is) c.requires.row)
    (subst (λ (p : PlaceSetState). c.args.column < p.size.columns) (sym c.self.view_is) c.requires.column)

pub overflow_mul-tile : goal.overflow_mul-tile
overflow_mul-tile c = omega (arith, (spot_of (goal.at.overflow_mul-tile c).After-self).fits, ap (λ a. c.args.row / 32 * a) c.tiles_across.ensures.across)

pub overflow_add-tile : goal.overflow_add-tile
overflow_add-tile c = omega (arith, (spot_of (goal.at.overflow_add-tile c).After-self).fits, ap (λ a. c.args.row / 32 * a) c.tiles_across.ensures.across, c.ranges.column.fits)

tile_lt : (c : After-tiles_across) → c.args.row / 32 * c.tiles_across.result + c.args.column / 32 < length c.self.inside.seats.items
tile_lt c =
    let w = spot_of (goal.at.After-tiles_across c).After-self in
    omega (arith, w.tile_lt, ap (λ a. c.args.row / 32 * a) c.tiles_across.ensures.across, c.self.invariant.0.count, seats_count [] (lists_of c.self.inside.words.items) c.self.inside.seats.items)

pub index-seat-requires : goal.index-seat-requires
index-seat-requires c = rw (c.self.inside.seats.ok.0) (tile_lt (goal.at.index-seat-requires c).After-tiles_across)

seat_within : (c : After-index-seat) → c.index-seat.result.now < length c.self.inside.words.items
seat_within c =
    let l = tile_lt (goal.at.After-index-seat c).After-tiles_across in
    omega (arith, seat_lt [] (lists_of c.self.inside.words.items) c.self.inside.seats.items (c.args.row / 32 * c.tiles_across.result + c.args.column / 32) c.index-seat.result.now c.self.invariant.1 l c.index-seat.ensures, length-map c.self.inside.words.items (λ v. v.items))

pub index-requires : goal.index-requires
index-requires c = rw (c.self.inside.words.ok.0) (seat_within (goal.at.index-requires c).After-index-seat)

-- the words of the tile
words_are : (c : After-deref) → words_at (seated_words c.self.inside.words.items c.self.inside.seats.items) (c.args.row / 32 * c.tiles_across.result + c.args.column / 32) ≡ c.deref.result.now
words_are c =
    let t = c.args.row / 32 * c.tiles_across.result + c.args.column / 32 in
    let l = tile_lt (goal.at.After-deref c).After-tiles_across in
    let lists = lists_of c.self.inside.words.items in
    seated_at [] lists c.self.inside.seats.items t l
    ∙ ap (λ k. get_or lists k []) (sym (seat_is c.self.inside.seats.items t c.index-seat.result.now l c.index-seat.ensures))
    ∙ slot_words (λ (v : Vec ℕ Global). v.items) c.self.inside.words.items c.index-seat.result.now c.index.result.now (seat_within (goal.at.After-deref c).After-index-seat) c.index.ensures
    ∙ sym c.deref.ensures.value

-- the mark, from the words of the tile
mark_is : (c : After-deref) → mark_in c.deref.result.now (c.args.row % 32) (c.args.column % 32) ≡ get_or c.args.self.now.marks (c.args.row * c.args.self.now.size.columns + c.args.column) false
mark_is c =
    let d = (goal.at.After-deref c).After-self in
    let s = c.self.inside.extent in
    let slots = seated_words c.self.inside.words.items c.self.inside.seats.items in
    let row : c.args.row < s.rows = subst (λ (p : PlaceSetState). c.args.row < p.size.rows) (sym c.self.view_is) c.requires.row in
    let column : c.args.column < s.columns = subst (λ (p : PlaceSetState). c.args.column < p.size.columns) (sym c.self.view_is) c.requires.column in
    ap (λ ws. mark_in ws (c.args.row % 32) (c.args.column % 32)) (sym (words_are c) ∙ ap (λ a. words_at slots (c.args.row / 32 * a + c.args.column / 32)) c.tiles_across.ensures.across)
    ∙ sym (mark_here s slots c.args.row c.args.column c.self.invariant.0.size row column)
    ∙ ap (λ (p : PlaceSetState). get_or p.marks (c.args.row * p.size.columns + c.args.column) false) c.self.view_is

pub returns-in-Some : goal.returns-in-Some
returns-in-Some c =
    let l : c.args.row % 32 < length c.deref.result.now = ltb-true (c.args.row % 32) (length c.deref.result.now) (sym c.in-Some.ensures.lookup.0) in
    let e : c.in-Some.word.now ≡ get_or c.deref.result.now (c.args.row % 32) 0 = c.in-Some.ensures.lookup.1 ∙ get_or_default c.deref.result.now (c.args.row % 32) c.in-Some.word.now 0 l in
    ap (λ n. eqb n 1) (shr_and_one c.in-Some.word.now (c.args.column % 32) ∙ ap (λ w. bit_at w (c.args.column % 32)) e) ∙ mark_is (goal.at.returns-in-Some c).After-deref

not_below : (u t : ℕ) → false ≡ nat_lt u t → t ≤ u
not_below u t h = grind (arith, nat_tests)

pub returns-in-None : goal.returns-in-None
returns-in-None c = sym (unmarked c.deref.result.now (c.args.row % 32) (c.args.column % 32) (not_below _ _ c.in-None.ensures.lookup.0)) ∙ mark_is (goal.at.returns-in-None c).After-deref
