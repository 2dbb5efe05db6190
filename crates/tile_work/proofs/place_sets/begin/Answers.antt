use Rattle.std.proofs.Common.{◌≡◌, ◌<◌, ℕ, List, [], ◌∷◌, ◌++◌, length, get_or, nat_eq, false, Vec, Global, refl, sym, ap, subst, ◌∙◌, arith, inl, inr}
use Rattle.std.specs.Prelude.{slice_set}
use Rattle.std.proofs.lemmas.Bool.{both_ways, eqb-true, eq-eqb}
use Rattle.std.proofs.lemmas.List.{get_or-set_same, length-map, length-replicate, length-set, map_push, set-get_or}
use Rattle.tile_work.specs.PlaceSets.{lists_of, seated_words, words_at}
use Rattle.tile_work.specs.Seats.{AreSeats, seated}
use Rattle.tile_work.proofs.Marks.{blank, no_words, slot_words, word_zero}
use Rattle.tile_work.proofs.Seats.{added, seat_is, seat_lt, seated_added, seated_at, taken}
use Rattle.tile_work.proofs.place_sets.begin.Goals as goal
use Rattle.tile_work.proofs.place_sets.begin.Goals.{After-is_empty}

-- the words that the tile has
words_are : (c : After-is_empty) → words_at (seated_words c.args.words.now.items c.args.seats.now.items) c.args.tile ≡ c.index-2.result.now.items
words_are c =
    let lists = lists_of c.args.words.now.items in
    let seats = c.args.seats.now.items in
    let within = c.requires.within in
    let l : c.index.result.now < length c.args.words.now.items = omega (arith, seat_lt no_words lists seats c.args.tile c.index.result.now c.requires.seats within c.index.ensures, length-map c.args.words.now.items (λ v. v.items)) in
    seated_at no_words lists seats c.args.tile within
    ∙ ap (λ k. get_or lists k no_words) (sym (seat_is seats c.args.tile c.index.result.now within c.index.ensures))
    ∙ slot_words (λ (v : Vec ℕ Global). v.items) c.args.words.now.items c.index.result.now c.index-2.result.now l c.index-2.ensures

count_is : (c : After-is_empty) → c.is_empty.result ≡ nat_eq (length (words_at (seated_words c.args.words.now.items c.args.seats.now.items) c.args.tile)) 0
count_is c = c.is_empty.ensures ∙ ap (λ n. nat_eq n 0) (c.index-2.result.now.ok.0 ∙ ap (λ ws. length ws) (sym (words_are c)))

pub returns-then-not-is_empty-clause-ok : goal.returns-then-not-is_empty-clause-ok
returns-then-not-is_empty-clause-ok c =
    let d = (goal.at.returns-then-not-is_empty-clause-ok c).After-is_empty in
    let seats = c.args.seats.now.items in
    let lists = lists_of c.args.words.now.items in
    let slots = seated_words c.args.words.now.items seats in
    let words = words_at slots c.args.tile in
    let some : nat_eq (length words) 0 ≡ false = sym (count_is d) ∙ c.if-not-is_empty.true in
    let none : length words ≡ 0 → ⊥ = λ e. both_ways (nat_eq (length words) 0) some (eq-eqb (length words) 0 e) in
    record {
      own = taken no_words lists seats c.args.tile c.requires.seats c.requires.within (λ e. none (ap (λ ws. length ws) e));
      are_seats = c.requires.seats;
      count = refl;
      now = words;
      long = elim c.requires.words as (λ _. length words ≡ 32) [ inl e ↦ absurd (none e) | inr e ↦ e ];
      same = λ r. refl;
      is = sym (set-get_or slots c.args.tile no_words);
    }

pub returns-clause-ok : goal.returns-clause-ok
returns-clause-ok c =
    let d = (goal.at.returns-clause-ok c).After-is_empty in
    let seats = c.args.seats.now.items in
    let lists = lists_of c.args.words.now.items in
    let t = c.args.tile in
    let new = c.in_ok-blank.blank.items in
    let seat : c.len-seat.result ≡ length lists = c.len-seat.ensures ∙ c.args.words.now.ok.0 ∙ sym (length-map c.args.words.now.items (λ v. v.items)) in
    let more : lists_of c.push.new.self.items ≡ lists ++ new ∷ [] = ap lists_of c.in_ok-push.ensures.items ∙ map_push (λ (v : Vec ℕ Global). v.items) c.args.words.now.items c.in_ok-blank.blank in
    let none : length (words_at (seated_words c.args.words.now.items seats) t) ≡ 0 = eqb-true _ 0 (sym (count_is d) ∙ c.if-not-is_empty.false) in
    let P : ℕ → List (List ℕ) → Type 0 = λ n ls. AreSeats no_words ls (slice_set seats t n) in
    record {
      own = omega (arith, get_or-set_same seats t c.len-seat.result 0 c.requires.within, seat, c.requires.seats.some);
      are_seats = subst (λ ls. P c.len-seat.result ls) (sym more) (subst (λ n. P n (lists ++ new ∷ [])) (sym seat) (added no_words lists seats c.requires.seats t c.requires.within new));
      count = length-set seats t c.len-seat.result;
      now = new;
      long = ap (λ ws. length ws) c.in_ok-blank.ensures ∙ length-replicate 32 word_zero;
      same = λ r. ap (λ ws. get_or ws r 0) c.in_ok-blank.ensures ∙ blank (words_at (seated_words c.args.words.now.items seats) t) none r;
      is = ap (λ ls. seated no_words ls (slice_set seats t c.len-seat.result)) more ∙ ap (λ n. seated no_words (lists ++ new ∷ []) (slice_set seats t n)) seat ∙ seated_added no_words lists seats c.requires.seats t c.requires.within new;
    }
