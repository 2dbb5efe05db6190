-- What follows the words label and symbol.
use Rattle.std.specs.Prelude.{ℕ, zero, suc, [], ◌∷◌, ◌++◌}
use Rattle.map_words.specs.Bytes.{Text}
use Rattle.grammar_core.specs.Rules.{Rule, ends, on, next, also}
use Rattle.statement_parser.specs.Lines.{Line, put_label, put_symbol, edit}
use Rattle.statement_parser.specs.Places.{name_of, value_of}
use Rattle.statement_parser.specs.Signs.{byte_of, sign_of}

-- {BYTE}, at most n times
abbrev pub further_bytes : (Text → Line) → ℕ → Text → Rule Text Line
further_bytes make zero t = ends (make t)
further_bytes make (suc n) t = also (on byte_of (λ b. further_bytes make n (t ++ b ∷ []))) (ends (make t))

-- name VALUE TEXT; a text has 1 to 64 bytes, and the first is no blank
abbrev pub label_rule : Rule Text Line
label_rule = next name_of (λ n. next value_of (λ z. next sign_of (λ b. further_bytes (λ t. edit (put_label n z t)) 63 (b ∷ []))))

-- name VALUE CHAR
abbrev pub symbol_rule : Rule Text Line
symbol_rule = next name_of (λ n. next value_of (λ z. next sign_of (λ b. ends (edit (put_symbol n z b)))))
