-- What lines may read, as they are played one after another.
use Rattle.std.proofs.Common.{◌≡◌, ◌+◌, ◌-◌, ℕ, true, false, List, [], ◌∷◌, ◌++◌, ◌||◌, cond, length, refl, sym, ap, ◌∙◌, arith, Result, Ok, Err}
use Rattle.std.specs.Prelude.{nat_le}
use Rattle.std.specs.List.{list_any}
use Rattle.std.proofs.lemmas.Bool.{le-leb}
use Rattle.std.proofs.lemmas.List.{length-append}
use Rattle.map_lines.specs.Present.{first_place, rows_at}
use Rattle.statement_parser.specs.Lines.{Line, blank, edit, undo, ask, model, quit}
use Rattle.statement_parser.specs.Texts.{Refusal as LineRefusal}
use Rattle.statement_parser.specs.LineOf.{line_of}
use Rattle.map_edits.specs.Allowances.{Reads, no_reads, together}
use Rattle.map_edits.specs.CountLaws.{IsWithin}
use Rattle.map_machine.specs.States.{MapState}
use Rattle.map_machine.specs.Steps.{ends, is_quit}
use Rattle.map_machine.specs.Text.{reply_to, state_to, replies_to, state_after}
use Rattle.map_machine.specs.LineReads.{reads_by, line_reads}
use Rattle.map_machine.specs.SessionReads.{and_then, lines_reads}
use Rattle.map_machine.proofs.Quits.{quit_anywhere}

-- ---- sums

abbrev reads : ℕ → ℕ → Reads
reads looks picks = record { looks = looks; picks = picks }

same : (a b : Reads) → a.looks ≡ b.looks → a.picks ≡ b.picks → a ≡ b
same a b e f = ap (λ l. reads l a.picks) e ∙ ap (λ p. reads b.looks p) f

none_together : (a : Reads) → together no_reads a ≡ a
none_together a = same (together no_reads a) a (omega arith) (omega arith)

together_none : (a : Reads) → together a no_reads ≡ a
together_none a = same (together a no_reads) a (omega arith) (omega arith)

together_assoc : (a b c : Reads) → together a (together b c) ≡ together (together a b) c
together_assoc a b c = same (together a (together b c)) (together (together a b) c) (omega arith) (omega arith)

pub within_same : (a : Reads) → IsWithin a a
within_same a = record { looks = omega arith; picks = omega arith }

within_more : (a b c : Reads) → IsWithin b c → IsWithin (together a b) (together a c)
within_more a b c w = record { looks = omega (arith, w.looks); picks = omega (arith, w.picks) }

-- ---- one command after another

-- a reply that is whole among the bytes written
and_then-whole : (r : Reads) (reply : List ℕ) (n : ℕ) (next : ℕ → Reads) → and_then r reply (length reply + n) next ≡ together r (next n)
and_then-whole r reply n next =
    let whole : nat_le (length reply) (length reply + n) ≡ true = le-leb (length reply) (length reply + n) (omega arith) in
    let left : (length reply + n) - length reply ≡ n = omega arith in
    rw (whole) (ap (λ k. together r (next k)) left)

-- ---- lines

-- the first of some lines may read no more than all
pub lines_reads-front : (s : MapState) (xs ys : List (List ℕ)) (n : ℕ) → IsWithin (lines_reads s xs n) (lines_reads s (xs ++ ys) n)
lines_reads-front s [] ys n = record { looks = omega arith; picks = omega arith }
lines_reads-front s (x ∷ xs) ys n = elim (is_quit x) as (λ t. IsWithin (cond t no_reads (and_then (line_reads s x) (reply_to s x) n (lines_reads (state_to s x) xs))) (cond t no_reads (and_then (line_reads s x) (reply_to s x) n (lines_reads (state_to s x) (xs ++ ys))))) [
  | true ↦ within_same no_reads
  | false ↦ elim (nat_le (length (reply_to s x)) n) as (λ t. IsWithin (cond t (together (line_reads s x) (lines_reads (state_to s x) xs (n - length (reply_to s x)))) (line_reads s x)) (cond t (together (line_reads s x) (lines_reads (state_to s x) (xs ++ ys) (n - length (reply_to s x)))) (line_reads s x))) [
    | true ↦ within_more (line_reads s x) (lines_reads (state_to s x) xs (n - length (reply_to s x))) (lines_reads (state_to s x) (xs ++ ys) (n - length (reply_to s x))) (lines_reads-front (state_to s x) xs ys (n - length (reply_to s x)))
    | false ↦ within_same (line_reads s x)
  ]
]

-- where no line ends the session and all replies are whole, more lines go on with it
pub lines_reads-append : (s : MapState) (xs ys : List (List ℕ)) (n : ℕ) → list_any is_quit xs ≡ false
    → lines_reads s (xs ++ ys) (length (replies_to s xs) + n) ≡ together (lines_reads s xs (length (replies_to s xs))) (lines_reads (state_after s xs) ys n)
lines_reads-append s [] ys n none = ap (lines_reads s ys) (omega arith) ∙ sym (none_together (lines_reads s ys n))
lines_reads-append s (x ∷ xs) ys n none = elim (is_quit x) as (λ t. (t || list_any is_quit xs) ≡ false
    → cond t no_reads (and_then (line_reads s x) (reply_to s x) (length (cond t [] (reply_to s x ++ replies_to (state_to s x) xs)) + n) (lines_reads (state_to s x) (xs ++ ys)))
    ≡ together (cond t no_reads (and_then (line_reads s x) (reply_to s x) (length (cond t [] (reply_to s x ++ replies_to (state_to s x) xs))) (lines_reads (state_to s x) xs))) (lines_reads (state_after (state_to s x) xs) ys n)) [
      | true ↦ λ h. absurd (cc)
      | false ↦ λ h.
          let r = line_reads s x in
          let t = state_to s x in
          let m = length (replies_to t xs) in
          let long : length (reply_to s x ++ replies_to t xs) ≡ length (reply_to s x) + m = length-append (reply_to s x) (replies_to t xs) in
          let longer : length (reply_to s x ++ replies_to t xs) + n ≡ length (reply_to s x) + (m + n) = omega (arith, long) in
          ap (λ k. and_then r (reply_to s x) k (lines_reads t (xs ++ ys))) longer
          ∙ and_then-whole r (reply_to s x) (m + n) (lines_reads t (xs ++ ys))
          ∙ ap (together r) (lines_reads-append t xs ys n h)
          ∙ together_assoc r (lines_reads t xs m) (lines_reads (state_after t xs) ys n)
          ∙ ap (λ a. together a (lines_reads (state_after t xs) ys n)) (sym (and_then-whole r (reply_to s x) m (lines_reads t xs)))
          ∙ ap (λ k. together (and_then r (reply_to s x) k (lines_reads t xs)) (lines_reads (state_after t xs) ys n)) (sym long)
    ] none

-- after the line that ends the session nothing is read
pub lines_reads-quit : (s : MapState) (xs ys : List (List ℕ)) (n : ℕ) → list_any is_quit xs ≡ true → lines_reads s (xs ++ ys) n ≡ lines_reads s xs n
lines_reads-quit s [] ys n some = absurd (cc)
lines_reads-quit s (x ∷ xs) ys n some = elim (is_quit x) as (λ t. (t || list_any is_quit xs) ≡ true
    → cond t no_reads (and_then (line_reads s x) (reply_to s x) n (lines_reads (state_to s x) (xs ++ ys))) ≡ cond t no_reads (and_then (line_reads s x) (reply_to s x) n (lines_reads (state_to s x) xs))) [
      | true ↦ λ _. refl
      | false ↦ λ h. ap (λ (later : Reads). cond (nat_le (length (reply_to s x)) n) (together (line_reads s x) later) (line_reads s x)) (lines_reads-quit (state_to s x) xs ys (n - length (reply_to s x)) h)
    ] some

-- one line that goes on
pub lines_reads-one : (s : MapState) (line : List ℕ) (n : ℕ) → is_quit line ≡ false → lines_reads s (line ∷ []) n ≡ line_reads s line
lines_reads-one s line n goes = rw goes (elim (nat_le (length (reply_to s line)) n) as (λ t. cond t (together (line_reads s line) no_reads) (line_reads s line) ≡ line_reads s line) [
  | true ↦ together_none (line_reads s line)
  | false ↦ refl
])

-- ---- lines that read nothing

ends_reads : (s : MapState) (r : Result Line LineRefusal) → ends r ≡ true → reads_by s r ≡ no_reads
ends_reads s (Ok blank) e = absurd (cc)
ends_reads s (Ok (edit e)) h = absurd (cc)
ends_reads s (Ok undo) e = absurd (cc)
ends_reads s (Ok (ask r)) e = absurd (cc)
ends_reads s (Ok (model l)) e = absurd (cc)
ends_reads s (Ok quit) e = refl
ends_reads s (Err r) e = absurd (cc)

pub line_reads-quit : (s : MapState) (line : List ℕ) → is_quit line ≡ true → line_reads s line ≡ no_reads
unfolding line_reads is_quit
line_reads-quit s line e = ends_reads s (line_of (rows_at s.place) line) (quit_anywhere s.place first_place line ∙ e)
