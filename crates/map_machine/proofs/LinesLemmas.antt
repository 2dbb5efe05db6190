-- How the lines of a text grow with it.
use Rattle.std.proofs.Common.{◌≡◌, ℕ, true, false, List, [], ◌∷◌, ◌++◌, ◌||◌, cond, map, refl, sym, ap, ◌∙◌, append_assoc, ◌==◌}
use Rattle.std.proofs.lemmas.List.{append-nil, map-append}
use Rattle.std.proofs.lemmas.List.Folds.{list_any-append}
use Rattle.map_machine.specs.Lines.{onto_first, ended_pieces, has_line_feed, open_piece, without_return, ended_lines, further_lines}

-- with no line feed there is no ended piece, and all is open
none_ended : (xs : List ℕ) → has_line_feed xs ≡ false → (ended_pieces xs ≡ []) × (open_piece xs ≡ xs)
none_ended [] e = (refl, refl)
none_ended (b ∷ xs) e = elim (b == 10) as (λ t. (t || has_line_feed xs) ≡ false
    → (cond t ([] ∷ ended_pieces xs) (onto_first b (ended_pieces xs)) ≡ []) × (cond (t || has_line_feed xs) (open_piece xs) (b ∷ xs) ≡ b ∷ xs)) [
      | true ↦ λ h. absurd (cc)
      | false ↦ λ h. (ap (onto_first b) (none_ended xs h).0, rw h refl)
    ] e

-- with a line feed there is an ended piece
some_ended : (xs : List ℕ) → has_line_feed xs ≡ true → (p : List ℕ) × (ps : List (List ℕ)) × (ended_pieces xs ≡ p ∷ ps)
some_ended [] e = absurd (cc)
some_ended (b ∷ xs) e = elim (b == 10) as (λ t. (t || has_line_feed xs) ≡ true
    → (p : List ℕ) × (ps : List (List ℕ)) × (cond t ([] ∷ ended_pieces xs) (onto_first b (ended_pieces xs)) ≡ p ∷ ps)) [
      | true ↦ λ h. ([], ended_pieces xs, refl)
      | false ↦ λ h. let r = some_ended xs h in (b ∷ r.0, r.1, ap (onto_first b) r.2)
    ] e

ended_after_byte : (b : ℕ) (xs ys : List ℕ) → (b == 10) ≡ false
    → ended_pieces (xs ++ ys) ≡ ended_pieces xs ++ ended_pieces (open_piece xs ++ ys)
    → onto_first b (ended_pieces (xs ++ ys)) ≡ onto_first b (ended_pieces xs) ++ ended_pieces (cond (has_line_feed xs) (open_piece xs) (b ∷ xs) ++ ys)
ended_after_byte b xs ys apart ih = elim (has_line_feed xs) as (λ t. has_line_feed xs ≡ t
    → onto_first b (ended_pieces (xs ++ ys)) ≡ onto_first b (ended_pieces xs) ++ ended_pieces (cond t (open_piece xs) (b ∷ xs) ++ ys)) [
      | true ↦ λ h. let r = some_ended xs h in
          ap (onto_first b) (ih ∙ ap (λ (l : List (List ℕ)). l ++ ended_pieces (open_piece xs ++ ys)) r.2) ∙ sym (ap (λ (l : List (List ℕ)). onto_first b l ++ ended_pieces (open_piece xs ++ ys)) r.2)
      | false ↦ λ h. let r = none_ended xs h in rw (r.0, apart) refl
    ] refl

-- what is added goes on from the open piece
pub ended_pieces-append : (xs ys : List ℕ) → ended_pieces (xs ++ ys) ≡ ended_pieces xs ++ ended_pieces (open_piece xs ++ ys)
ended_pieces-append [] ys = refl
ended_pieces-append (b ∷ xs) ys = elim (b == 10) as (λ t. (b == 10) ≡ t → cond t ([] ∷ ended_pieces (xs ++ ys)) (onto_first b (ended_pieces (xs ++ ys)))
    ≡ cond t ([] ∷ ended_pieces xs) (onto_first b (ended_pieces xs)) ++ ended_pieces (cond (t || has_line_feed xs) (open_piece xs) (b ∷ xs) ++ ys)) [
      | true ↦ λ _. ap (λ ps. [] ∷ ps) (ended_pieces-append xs ys)
      | false ↦ λ e. ended_after_byte b xs ys e (ended_pieces-append xs ys)
    ] refl

-- the open piece has no line feed
pub open_has_none : (xs : List ℕ) → has_line_feed (open_piece xs) ≡ false
open_has_none [] = refl
open_has_none (b ∷ xs) = elim (has_line_feed (b ∷ xs)) as (λ t. has_line_feed (b ∷ xs) ≡ t → has_line_feed (cond t (open_piece xs) (b ∷ xs)) ≡ false) [
  | true ↦ λ _. open_has_none xs
  | false ↦ λ e. e
] refl

feed_at_end : (zs : List ℕ) → has_line_feed (zs ++ 10 ∷ []) ≡ true
feed_at_end [] = refl
feed_at_end (c ∷ zs) = elim (c == 10) as (λ t. (t || has_line_feed (zs ++ 10 ∷ [])) ≡ true) [ true ↦ refl | false ↦ feed_at_end zs ]

-- without a line feed, one at the end ends the whole
ended_at_feed : (xs : List ℕ) → has_line_feed xs ≡ false → (ended_pieces (xs ++ 10 ∷ []) ≡ xs ∷ []) × (open_piece (xs ++ 10 ∷ []) ≡ [])
ended_at_feed [] e = (refl, refl)
ended_at_feed (b ∷ xs) e = elim (b == 10) as (λ t. (t || has_line_feed xs) ≡ false
    → (cond t ([] ∷ ended_pieces (xs ++ 10 ∷ [])) (onto_first b (ended_pieces (xs ++ 10 ∷ []))) ≡ (b ∷ xs) ∷ [])
    × (cond (t || has_line_feed (xs ++ 10 ∷ [])) (open_piece (xs ++ 10 ∷ [])) (b ∷ xs ++ 10 ∷ []) ≡ [])) [
      | true ↦ λ h. absurd (cc)
      | false ↦ λ h. let r = ended_at_feed xs h in (ap (onto_first b) r.0, rw (feed_at_end xs) r.1)
    ] e

-- any other byte goes on with the open piece
no_feed_more : (xs : List ℕ) (b : ℕ) → has_line_feed xs ≡ false → (b == 10) ≡ false → has_line_feed (xs ++ b ∷ []) ≡ false
no_feed_more [] b e apart = rw apart refl
no_feed_more (c ∷ xs) b e apart = elim (c == 10) as (λ t. (t || has_line_feed xs) ≡ false → (t || has_line_feed (xs ++ b ∷ [])) ≡ false) [
  | true ↦ λ h. h
  | false ↦ λ h. no_feed_more xs b h apart
] e

pub open_piece-append : (xs ys : List ℕ) → open_piece (xs ++ ys) ≡ open_piece (open_piece xs ++ ys)
open_piece-append [] ys = refl
open_piece-append (b ∷ xs) ys = elim (has_line_feed (b ∷ xs)) as (λ t. has_line_feed (b ∷ xs) ≡ t
    → open_piece (b ∷ xs ++ ys) ≡ open_piece (cond t (open_piece xs) (b ∷ xs) ++ ys)) [
      | true ↦ λ e. rw (list_any-append (λ c. c == 10) (b ∷ xs) ys ∙ ap (λ t. t || has_line_feed ys) e) (open_piece-append xs ys)
      | false ↦ λ e. refl
    ] refl

pub open_piece-feed : (xs : List ℕ) → open_piece (xs ++ 10 ∷ []) ≡ []
open_piece-feed xs = open_piece-append xs (10 ∷ []) ∙ (ended_at_feed (open_piece xs) (open_has_none xs)).1

pub open_piece-byte : (xs : List ℕ) (b : ℕ) → (b == 10) ≡ false → open_piece (xs ++ b ∷ []) ≡ open_piece xs ++ b ∷ []
open_piece-byte xs b e = open_piece-append xs (b ∷ []) ∙ (none_ended (open_piece xs ++ b ∷ []) (no_feed_more (open_piece xs) b (open_has_none xs) e)).1

-- the lines that end in a front are the first of those that end in the whole
pub ended_lines-append : (xs ys : List ℕ) → ended_lines (xs ++ ys) ≡ ended_lines xs ++ ended_lines (open_piece xs ++ ys)
ended_lines-append xs ys = ap (map without_return) (ended_pieces-append xs ys) ∙ map-append without_return (ended_pieces xs) (ended_pieces (open_piece xs ++ ys))

-- one carriage return at the end goes, and any other last byte stays
pub without_return-push : (xs : List ℕ) (b : ℕ) → without_return (xs ++ b ∷ []) ≡ cond (b == 13) xs (xs ++ b ∷ [])
without_return-push [] b = refl
without_return-push (c ∷ []) b = elim (b == 13) as (λ t. (c ∷ cond t [] (b ∷ [])) ≡ cond t (c ∷ []) (c ∷ b ∷ [])) [ true ↦ refl | false ↦ refl ]
without_return-push (c ∷ d ∷ xs) b = ap (λ l. c ∷ l) (without_return-push (d ∷ xs) b)
    ∙ (elim (b == 13) as (λ t. (c ∷ cond t (d ∷ xs) (d ∷ xs ++ b ∷ [])) ≡ cond t (c ∷ d ∷ xs) (c ∷ d ∷ xs ++ b ∷ [])) [ true ↦ refl | false ↦ refl ])

none_further : (xs : List ℕ) → has_line_feed xs ≡ false → ended_lines xs ≡ []
none_further xs none = ap (map without_return) (none_ended xs none).0

pub further_lines-nil : (taken : List ℕ) → further_lines taken [] ≡ []
further_lines-nil taken = ap ended_lines (append-nil (open_piece taken)) ∙ none_further (open_piece taken) (open_has_none taken)

pub further_lines-feed : (taken : List ℕ) → further_lines taken (10 ∷ []) ≡ without_return (open_piece taken) ∷ []
further_lines-feed taken = ap (map without_return) (ended_at_feed (open_piece taken) (open_has_none taken)).0

pub further_lines-byte : (taken : List ℕ) (b : ℕ) → (b == 10) ≡ false → further_lines taken (b ∷ []) ≡ []
further_lines-byte taken b e = none_further (open_piece taken ++ b ∷ []) (no_feed_more (open_piece taken) b (open_has_none taken) e)

pub further_lines-append : (taken xs ys : List ℕ) → further_lines taken (xs ++ ys) ≡ further_lines taken xs ++ further_lines (taken ++ xs) ys
further_lines-append taken xs ys = ap ended_lines (sym (append_assoc (open_piece taken) xs ys)) ∙ ended_lines-append (open_piece taken ++ xs) ys
    ∙ ap (λ p. further_lines taken xs ++ ended_lines (p ++ ys)) (sym (open_piece-append taken xs))
