-- Reading labels and symbols, on lists.
use Rattle.std.specs.Prelude.{ℕ, zero, suc, true, false, List, [], ◌∷◌, ◌++◌, Result, Ok, if◌then◌else◌}
use Rattle.map_words.specs.Bytes.{Text}
use Rattle.grammar_core.specs.declared.Fault.{Fault}
use Rattle.grammar_core.specs.Readers.{◌>>=◌, Read, one_at, end_at, starts}
use Rattle.statement_parser.specs.Lines.{Line, put_label, put_symbol, edit}
use Rattle.statement_parser.specs.Places.{name_of, value_of, reading}
use Rattle.statement_parser.specs.Signs.{byte_of, sign_of}

unfoldable pub bytes_at : ℕ → Text → List Text → Read Text Text
bytes_at zero t ws = Ok (t, ws)
bytes_at (suc n) t ws = if starts byte_of ws then (do
  b ← one_at reading byte_of false ws
  bytes_at n (t ++ b.0 ∷ []) b.1) else Ok (t, ws)

unfoldable pub label_at : List Text → Result Line Fault
label_at ws = do
  n ← one_at reading name_of false ws
  z ← one_at reading value_of true n.1
  b ← one_at reading sign_of false z.1
  t ← bytes_at 63 (b.0 ∷ []) b.1
  e ← end_at t.1
  Ok (edit (put_label n.0 z.0 t.0))

unfoldable pub symbol_at : List Text → Result Line Fault
symbol_at ws = do
  n ← one_at reading name_of false ws
  z ← one_at reading value_of true n.1
  b ← one_at reading sign_of false z.1
  e ← end_at b.1
  Ok (edit (put_symbol n.0 z.0 b.0))
