-- How the text of a session grows with its lines.
use Rattle.std.proofs.Common.{◌+◌, ◌≡◌, ◌<◌, ◌≤◌, ◌-◌, ℕ, true, false, List, [], ◌∷◌, ◌++◌, ◌||◌, cond, length, take, refl, sym, ap, ◌∙◌, arith, append_assoc, nat_lt}
use Rattle.std.specs.List.{list_any}
use Rattle.std.specs.Prelude.{nat_le}
use Rattle.std.proofs.lemmas.Bool.Decides.{nat_tests}
use Rattle.statement_parser.specs.LineOf.{line_of}
use Rattle.std.proofs.lemmas.List.{append-nil, length-append, take_at}
use Rattle.std.proofs.Math.Seq.{take-append-add}
use Rattle.std.proofs.lemmas.Bool.{lt-ltb, le-ltb}
use Rattle.map_machine.specs.Lines.{open_piece, ended_lines, last_line, lines_of}
use Rattle.map_machine.specs.States.{MapState}
use Rattle.map_machine.specs.Steps.{is_quit, long_reply}
use Rattle.map_machine.specs.Text.{reply_to, state_to, replies_to, state_after, session_lines}
use Rattle.map_machine.proofs.LinesLemmas.{ended_lines-append}

pub state_after-append : (s : MapState) (xs ys : List (List ℕ)) → state_after s (xs ++ ys) ≡ state_after (state_after s xs) ys
state_after-append s [] ys = refl
state_after-append s (x ∷ xs) ys = state_after-append (state_to s x) xs ys

-- where no line ends the session, more lines go on with it
pub replies_to-append : (s : MapState) (xs ys : List (List ℕ)) → list_any is_quit xs ≡ false
    → replies_to s (xs ++ ys) ≡ replies_to s xs ++ replies_to (state_after s xs) ys
replies_to-append s [] ys none = refl
replies_to-append s (x ∷ xs) ys none = elim (is_quit x) as (λ t. (t || list_any is_quit xs) ≡ false
    → cond t [] (reply_to s x ++ replies_to (state_to s x) (xs ++ ys)) ≡ cond t [] (reply_to s x ++ replies_to (state_to s x) xs) ++ replies_to (state_after (state_to s x) xs) ys) [
      | true ↦ λ h. absurd (cc)
      | false ↦ λ h. ap (λ l. reply_to s x ++ l) (replies_to-append (state_to s x) xs ys h)
          ∙ sym (append_assoc (reply_to s x) (replies_to (state_to s x) xs) (replies_to (state_after (state_to s x) xs) ys))
    ] none

-- after the line that ends the session nothing is replied
pub replies_to-quit : (s : MapState) (xs ys : List (List ℕ)) → list_any is_quit xs ≡ true → replies_to s (xs ++ ys) ≡ replies_to s xs
replies_to-quit s [] ys some = absurd (cc)
replies_to-quit s (x ∷ xs) ys some = elim (is_quit x) as (λ t. (t || list_any is_quit xs) ≡ true
    → cond t [] (reply_to s x ++ replies_to (state_to s x) (xs ++ ys)) ≡ cond t [] (reply_to s x ++ replies_to (state_to s x) xs)) [
      | true ↦ λ _. refl
      | false ↦ λ h. ap (λ l. reply_to s x ++ l) (replies_to-quit (state_to s x) xs ys h)
    ] some

-- a line that is too long doesn't end the session
not_short : (n : ℕ) → 4096 < n → nat_le n 4096 ≡ false
not_short n h = grind (arith, nat_tests)

pub long_no_quit : (line : List ℕ) → 4096 < length line → is_quit line ≡ false
unfolding is_quit line_of
long_no_quit line long = rw (not_short (length line) long) refl

pub reply_to-long : (s : MapState) (line : List ℕ) → 4096 < length line → reply_to s line ≡ long_reply (length line)
reply_to-long s line long = rw (lt-ltb 4096 (length line) long) refl

pub state_to-long : (s : MapState) (line : List ℕ) → 4096 < length line → state_to s line ≡ s
state_to-long s line long = rw (lt-ltb 4096 (length line) long) refl

-- the text of one line that goes on
pub replies_to-one : (s : MapState) (line : List ℕ) → is_quit line ≡ false → replies_to s (line ∷ []) ≡ reply_to s line
replies_to-one s line goes = rw goes (append-nil (reply_to s line))

-- the text of more lines begins with that of fewer
pub replies_to-begin : (s : MapState) (lines more : List (List ℕ)) → (rest : List ℕ) × (replies_to s (lines ++ more) ≡ replies_to s lines ++ rest)
replies_to-begin s lines more = elim (list_any is_quit lines) as (λ t. list_any is_quit lines ≡ t → (rest : List ℕ) × (replies_to s (lines ++ more) ≡ replies_to s lines ++ rest)) [
  | true ↦ λ e. ([], replies_to-quit s lines more e ∙ sym (append-nil (replies_to s lines)))
  | false ↦ λ e. (replies_to (state_after s lines) more, replies_to-append s lines more e)
] refl

take_on : (limit : ℕ) (xs ys : List ℕ) → length xs ≤ limit → take limit (xs ++ ys) ≡ xs ++ take (limit - length xs) ys
take_on limit xs ys within =
    let sum : limit ≡ length xs + (limit - length xs) = omega arith in
    ap (λ n. take n (xs ++ ys)) sum ∙ take-append-add xs ys (limit - length xs)

-- what is played of a session begins with the lines that ended among the bytes so far
pub session_lines_begin : (limit : ℕ) (taken left : List ℕ) → length taken ≤ limit
    → (more : List (List ℕ)) × (session_lines limit (taken ++ left) ≡ ended_lines taken ++ more)
session_lines_begin limit taken left within = elim (nat_lt (length (taken ++ left)) limit) as (λ t. (more : List (List ℕ))
    × (cond t (lines_of (taken ++ left)) (ended_lines (take limit (taken ++ left))) ≡ ended_lines taken ++ more)) [
      | true ↦ (
        ended_lines (open_piece taken ++ left) ++ last_line (open_piece (taken ++ left)),
        ap (λ ls. ls ++ last_line (open_piece (taken ++ left))) (ended_lines-append taken left) ∙ append_assoc (ended_lines taken) (ended_lines (open_piece taken ++ left)) (last_line (open_piece (taken ++ left))),
      )
      | false ↦ (
        ended_lines (open_piece taken ++ take (limit - length taken) left),
        ap ended_lines (take_on limit taken left within) ∙ ended_lines-append taken (take (limit - length taken) left),
      )
    ]

-- a session that ended is played whole
pub session_lines_ended : (limit : ℕ) (taken : List ℕ) → length taken < limit → session_lines limit taken ≡ lines_of taken
session_lines_ended limit taken short = rw (lt-ltb (length taken) limit short) refl

-- of one that goes past the limit the ended lines are played
pub session_lines_full : (limit : ℕ) (taken left : List ℕ) → length taken ≡ limit → session_lines limit (taken ++ left) ≡ ended_lines taken
session_lines_full limit taken left full =
    let long : limit ≤ length (taken ++ left) = omega (arith, length-append taken left) in
    rw (le-ltb (length (taken ++ left)) limit long) (ap ended_lines (take_at taken left limit full))
