-- Where the first line feed of some bytes stands, and the lines that such bytes end.
use Rattle.std.proofs.Common.{◌≡◌, ◌<◌, ◌+◌, ℕ, suc, true, false, List, [], ◌∷◌, ◌++◌, ◌==◌, ◌||◌, cond, length, take, drop, get_or, refl, sym, ap, ◌∙◌, arith, Some, None}
use Rattle.std.specs.List.{position, position_from}
use Rattle.std.proofs.lemmas.Bool.{eqb-true}
use Rattle.std.proofs.lemmas.Iterator.Adapters.{position_from-zero}
use Rattle.std.proofs.lemmas.List.{append_assoc, append-nil, get_or-take, length-take-le, take-append-drop, drop_more}
use Rattle.std.proofs.lemmas.List.Quantifiers.{position-Some}
use Rattle.map_machine.specs.Lines.{has_line_feed, open_piece, without_return, further_lines}
use Rattle.map_machine.proofs.LinesLemmas.{open_piece-byte, open_piece-feed, further_lines-append, further_lines-byte, further_lines-feed, further_lines-nil}

no_feed_from : (xs : List ℕ) (i : ℕ) → position_from (λ b. b == 10) i xs ≡ None → has_line_feed xs ≡ false
no_feed_from [] i e = refl
no_feed_from (x ∷ xs) i e = elim (x == 10) as (λ t. cond t (Some i) (position_from (λ b. b == 10) (i + 1) xs) ≡ None → (t || has_line_feed xs) ≡ false) [
  | true ↦ λ h. absurd (cc)
  | false ↦ λ h. no_feed_from xs (i + 1) h
] e

pub no_feed : (xs : List ℕ) → position (λ b. b == 10) xs ≡ None → has_line_feed xs ≡ false
no_feed xs e = no_feed_from xs 0 (sym (position_from-zero (λ b. b == 10) xs) ∙ e)

no_feed_before : (xs : List ℕ) → ((k : ℕ) → k < length xs → (get_or xs k 0 == 10) ≡ false) → has_line_feed xs ≡ false
no_feed_before [] apart = refl
no_feed_before (x ∷ xs) apart = rw (apart 0 (omega arith)) (no_feed_before xs (λ k h. apart (suc k) (omega arith)))

pub feed_at : (xs : List ℕ) (i : ℕ) → position (λ b. b == 10) xs ≡ Some i → (xs ≡ (take i xs ++ 10 ∷ []) ++ drop (i + 1) xs) × (has_line_feed (take i xs) ≡ false)
feed_at xs i e =
    let found = position-Some (λ b. b == 10) xs i 0 e in
    let feed : get_or xs i 0 ≡ 10 = eqb-true (get_or xs i 0) 10 found.1 in
    let size : length (take i xs) ≡ i = length-take-le i xs (omega (arith, found.0)) in (
      sym (take-append-drop i xs) ∙ ap (λ l. take i xs ++ l) (drop_more xs i 0 found.0 ∙ ap (λ b. b ∷ drop (i + 1) xs) feed) ∙ sym (append_assoc (take i xs) (10 ∷ []) (drop (i + 1) xs)),
      no_feed_before (take i xs) (λ k h. let below : k < i = omega arith in ap (λ b. b == 10) (get_or-take i xs k 0 below) ∙ found.2 k below),
    )

-- bytes without a line feed end no line, and go on with the open piece
pub no_line : (taken bytes : List ℕ) → has_line_feed bytes ≡ false → (further_lines taken bytes ≡ []) × (open_piece (taken ++ bytes) ≡ open_piece taken ++ bytes)
no_line taken [] none = (further_lines-nil taken, ap open_piece (append-nil taken) ∙ sym (append-nil (open_piece taken)))
no_line taken (b ∷ bytes) none = elim (b == 10) as (λ t. (b == 10) ≡ t → (t || has_line_feed bytes) ≡ false
    → (further_lines taken (b ∷ bytes) ≡ []) × (open_piece (taken ++ b ∷ bytes) ≡ open_piece taken ++ b ∷ bytes)) [
      | true ↦ λ _ h. absurd (cc)
      | false ↦ λ e h.
          let rest = no_line (taken ++ b ∷ []) bytes h in (
            further_lines-append taken (b ∷ []) bytes ∙ ap (λ l. l ++ further_lines (taken ++ b ∷ []) bytes) (further_lines-byte taken b e) ∙ rest.0,
            ap open_piece (sym (append_assoc taken (b ∷ []) bytes)) ∙ rest.1 ∙ ap (λ l. l ++ bytes) (open_piece-byte taken b e) ∙ append_assoc (open_piece taken) (b ∷ []) bytes,
          )
    ] refl none

-- with a line feed after them they end one line, and nothing is open
pub one_line : (taken bytes : List ℕ) → has_line_feed bytes ≡ false
    → (further_lines taken (bytes ++ 10 ∷ []) ≡ without_return (open_piece taken ++ bytes) ∷ []) × (open_piece (taken ++ (bytes ++ 10 ∷ [])) ≡ [])
one_line taken bytes none =
    let plain = no_line taken bytes none in (
      further_lines-append taken bytes (10 ∷ []) ∙ ap (λ l. l ++ further_lines (taken ++ bytes) (10 ∷ [])) plain.0 ∙ further_lines-feed (taken ++ bytes)
          ∙ ap (λ p. without_return p ∷ []) plain.1,
      ap open_piece (sym (append_assoc taken bytes (10 ∷ []))) ∙ open_piece-feed (taken ++ bytes),
    )
