-- What the bytes of a line are, as a program: the one line, or the one refusal.
use Rattle.std.specs.Prelude.{◌≡◌, ℕ, length, Option, Some, None, IfSome, Result, Ok, Err, if◌then◌else◌}
use Rattle.map_words.specs.Bytes.{Text, first_bad, is_silent}
use Rattle.grammar_core.specs.declared.Fault.{Fault}
use Rattle.grammar_core.specs.Run.{run}
use Rattle.statement_parser.specs.Lines.{Manner, Line, blank}
use Rattle.statement_parser.specs.declared.refusal.LineRefusal.{LineRefusal}
use Rattle.statement_parser.specs.Texts.{is_short, seen, LineText, Refusal, long, syntax, refusal_of, RefusedText}
use Rattle.statement_parser.specs.Columns.{column}
use Rattle.statement_parser.specs.Parsed.{refusal_view}
use Rattle.statement_parser.specs.Places.{tests}
use Rattle.statement_parser.specs.Grammar.{line_rule}

abbrev pub of_words : Text → Result Line Fault → Result Line Refusal
of_words bytes (Ok x) = Ok x
of_words bytes (Err f) = Err (refusal_of f.kind (column bytes f.left))

abbrev pub of_bytes : Manner → Text → Option ℕ → Result Line Refusal
of_bytes m bytes (Some at) = Err (syntax at)
of_bytes m bytes None = of_words bytes (run (tests m) (line_rule m) (seen bytes))

unfoldable pub line_of : Manner → Text → Result Line Refusal
line_of m bytes = if is_short bytes then (if is_silent bytes then Ok blank else of_bytes m bytes (first_bad bytes)) else Err (long (length bytes))

-- the program gives the line that the bytes are, or how they are refused, and nothing else
pub record IsLineOf (m : Manner) (bytes : Text) : Type 0 where
  pub line : (x : Line) → LineText m bytes x → line_of m bytes ≡ Ok x
  pub refusal : (r : Refusal) → RefusedText m bytes r → line_of m bytes ≡ Err r
  pub is_line : (x : Line) → line_of m bytes ≡ Ok x → LineText m bytes x
  pub is_refused : (r : Refusal) → line_of m bytes ≡ Err r → RefusedText m bytes r

-- what reading answers is what the program gives; want of memory is free
abbrev pub IsLineRead : {V : Type 0} → Result Line Refusal → (V → Line) → Result V LineRefusal → Type 0
IsLineRead read view (Ok x) = read ≡ Ok (view x)
IsLineRead read view (Err e) = IfSome (refusal_view e) (λ r. read ≡ Err r)
