-- The bytes of lines: which line they are, or how they are refused.
use Rattle.std.specs.Prelude.{◌≡◌, ◌⊎◌, ℕ, nat_le, Bool, true, false, List, map, length, Some, None}
use Rattle.map_words.specs.Bytes.{Text, first_bad, is_silent}
use Rattle.map_words.specs.Words.{text_of}
use Rattle.statement_parser.specs.Tails.{line_words}
use Rattle.grammar_core.specs.declared.Kind.{Kind}
use Rattle.grammar_core.specs.declared.Kind.TheVariants.{Syntax, Number, Operation}
use Rattle.grammar_core.specs.Refusals.{IsRefusedAt}
use Rattle.statement_parser.specs.Lines.{Manner, Line, blank}
use Rattle.statement_parser.specs.Places.{tests}
use Rattle.statement_parser.specs.Columns.{column}
use Rattle.statement_parser.specs.Grammar.{line_rule, IsLine}

-- the texts of a line's words
abbrev pub seen : Text → List Text
seen bytes = map text_of (line_words bytes)

-- a line has at most 4,096 bytes
abbrev pub is_short : Text → Bool
is_short bytes = nat_le (length bytes) 4096

-- the bytes are this line
pub data LineText (m : Manner) (bytes : Text) : Line → Type 0 where
  silent : is_short bytes ≡ true → is_silent bytes ≡ true → LineText m bytes blank
  worded : {x : Line} → is_short bytes ≡ true → is_silent bytes ≡ false → first_bad bytes ≡ None → IsLine m (seen bytes) x → LineText m bytes x

-- why a line is refused: its length, or the column of the fault, from 1
pub data Refusal : Type 0 where
  long : ℕ → Refusal
  syntax : ℕ → Refusal
  operation : ℕ → Refusal
  number : ℕ → Refusal

abbrev pub refusal_of : Kind → ℕ → Refusal
refusal_of Syntax at = syntax at
refusal_of Operation at = operation at
refusal_of Number at = number at

-- the bytes are refused so
pub data RefusedText (m : Manner) (bytes : Text) : Refusal → Type 0 where
  too_long : is_short bytes ≡ false → RefusedText m bytes (long (length bytes))
  bad_byte : {at : ℕ} → is_short bytes ≡ true → is_silent bytes ≡ false → first_bad bytes ≡ Some at → RefusedText m bytes (syntax at)
  bad_word : (kind : Kind) (left : ℕ) → is_short bytes ≡ true → is_silent bytes ≡ false → first_bad bytes ≡ None → IsRefusedAt (tests m) (line_rule m) (seen bytes) kind left
      → RefusedText m bytes (refusal_of kind (column bytes left))

-- of all bytes, either they are one line, or they are refused in one way
pub record IsSettledText (m : Manner) (bytes : Text) : Type 0 where
  pub one_line : (x y : Line) → LineText m bytes x → LineText m bytes y → x ≡ y
  pub one_refusal : (r s : Refusal) → RefusedText m bytes r → RefusedText m bytes s → r ≡ s
  pub never_both : (x : Line) (r : Refusal) → LineText m bytes x → RefusedText m bytes r → ⊥
  pub either : ((x : Line) × LineText m bytes x) ⊎ ((r : Refusal) × RefusedText m bytes r)
