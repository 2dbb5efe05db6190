-- The words of a line: what follows the value of a label or a symbol is cut into bytes.
use Rattle.std.specs.Prelude.{ℕ, suc, ◌+◌, ◌-◌, List, [], ◌∷◌, ◌++◌, length, take, drop, Option, Some, None, codes, bytes_eq, if◌then◌else◌}
use Rattle.map_words.specs.Bytes.{Text, is_blank}
use Rattle.map_words.specs.Words.{Placed, words_of}
use Rattle.statement_parser.specs.declared.tails.Tail.{Tail}
use Rattle.statement_parser.specs.declared.tails.Tail.TheVariants.{Label, Symbol}

-- each byte as a word, from a column on
abbrev pub byte_words : ℕ → Text → List Placed
byte_words at [] = []
byte_words at (b ∷ bs) = record { text = b ∷ []; at = at } ∷ byte_words (suc at) bs

abbrev pub before_blanks : ℕ → Text → Text
before_blanks b [] = if is_blank b then [] else b ∷ []
before_blanks b (c ∷ cs) = b ∷ c ∷ cs

-- the bytes up to the last that isn't a blank
abbrev pub trimmed : Text → Text
trimmed [] = []
trimmed (b ∷ bs) = before_blanks b (trimmed bs)

-- the bytes from the first that isn't a blank on
abbrev pub text_words : ℕ → Text → List Placed
text_words at [] = []
text_words at (b ∷ bs) = if is_blank b then text_words (suc at) bs else byte_words at (b ∷ bs)

-- the bytes that are no blanks
abbrev pub sign_words : ℕ → Text → List Placed
sign_words at [] = []
sign_words at (b ∷ bs) = if is_blank b then sign_words (suc at) bs else record { text = b ∷ []; at = at } ∷ sign_words (suc at) bs

-- what begins so has a tail from this place on, from 0
abbrev pub tail_at : Text → ℕ → Option Tail
tail_at first k = if bytes_eq first (codes "label") then Some (Label k) else (if bytes_eq first (codes "symbol") then Some (Symbol k) else None)

-- the tail follows the third word
abbrev pub tail_of : List Placed → Option Tail
tail_of [] = None
tail_of (first ∷ []) = None
tail_of (first ∷ name ∷ []) = None
tail_of (first ∷ name ∷ value ∷ ws) = tail_at first.text (value.at - 1 + length value.text)

-- of a label's tail its bytes without the blanks at both ends, of a symbol's its bytes without blanks
abbrev pub tail_words : Text → Tail → List Placed
tail_words bytes (Label k) = text_words (suc k) (trimmed (drop k bytes))
tail_words bytes (Symbol k) = sign_words (suc k) (drop k bytes)

abbrev pub with_tail : Text → List Placed → Option Tail → List Placed
with_tail bytes ws None = ws
with_tail bytes ws (Some tail) = take 3 ws ++ tail_words bytes tail

abbrev pub recut : Text → List Placed → List Placed
recut bytes ws = with_tail bytes ws (tail_of ws)

-- the words of a line, each with its column
abbrev pub line_words : Text → List Placed
line_words bytes = recut bytes (words_of bytes)

abbrev pub start_of : Tail → ℕ
start_of (Label k) = k
start_of (Symbol k) = k
