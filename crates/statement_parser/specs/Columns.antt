-- The columns of a line's words, from 1.
use Rattle.std.specs.Prelude.{ℕ, suc, ◌-◌, List, [], ◌∷◌, length, drop}
use Rattle.map_words.specs.Bytes.{Text}
use Rattle.map_words.specs.Words.{Placed}
use Rattle.statement_parser.specs.Tails.{line_words}

-- the column of the first word, or the one after the line's last byte
abbrev pub first_column : ℕ → List Placed → ℕ
first_column len [] = suc len
first_column len (w ∷ ws) = w.at

-- the column of the first of the last n words; the length plus 1 for none
abbrev pub column_among : ℕ → List Placed → ℕ → ℕ
column_among len ws n = first_column len (drop (length ws - n) ws)

abbrev pub column : Text → ℕ → ℕ
column bytes n = column_among (length bytes) (line_words bytes) n
