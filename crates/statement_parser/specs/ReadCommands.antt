-- Reading what follows the word of a command, on lists.
use Rattle.std.specs.Prelude.{true, false, List, Result, Ok}
use Rattle.map_words.specs.Bytes.{Text}
use Rattle.grammar_core.specs.declared.Fault.{Fault}
use Rattle.grammar_core.specs.Readers.{◌>>=◌, one_at, end_at}
use Rattle.statement_parser.specs.Lines.{Line, ask_value, ask_table, ask_list, edit, undo, ask, model}
use Rattle.statement_parser.specs.Places.{any_of, version_of, reading}
use Rattle.statement_parser.specs.ReadEdits.{painted_at, laid_at, dropped_at, looked_at}

unfoldable pub paint_at : List Text → Result Line Fault
paint_at ws = do
  e ← painted_at ws
  u ← end_at e.1
  Ok (edit e.0)

unfoldable pub new_at : List Text → Result Line Fault
new_at ws = do
  e ← laid_at ws
  u ← end_at e.1
  Ok (edit e.0)

unfoldable pub drop_at : List Text → Result Line Fault
drop_at ws = do
  e ← dropped_at ws
  u ← end_at e.1
  Ok (edit e.0)

unfoldable pub undo_at : List Text → Result Line Fault
undo_at ws = do
  e ← end_at ws
  Ok undo

unfoldable pub value_at : List Text → Result Line Fault
value_at ws = do
  l ← looked_at ws
  e ← end_at l.1
  Ok (ask (ask_value l.0.0 l.0.1 l.0.2))

unfoldable pub any_line_at : (Text → Line) → List Text → Result Line Fault
any_line_at make ws = do
  n ← one_at reading any_of false ws
  e ← end_at n.1
  Ok (make n.0)

unfoldable pub table_at : List Text → Result Line Fault
table_at ws = do
  n ← one_at reading any_of false ws
  v ← one_at reading any_of false n.1
  e ← end_at v.1
  Ok (ask (ask_table n.0 v.0))

unfoldable pub model_at : List Text → Result Line Fault
model_at ws = do
  l ← one_at reading version_of true ws
  e ← end_at l.1
  Ok (model l.0)

unfoldable pub list_at : List Text → Result Line Fault
list_at ws = do
  e ← end_at ws
  Ok (ask ask_list)
