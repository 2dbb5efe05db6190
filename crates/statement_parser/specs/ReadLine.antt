-- Reading lines, on lists.
use Rattle.std.specs.Prelude.{suc, List, [], ◌∷◌, length, Option, Some, None, Result, Ok}
use Rattle.map_words.specs.Bytes.{Text}
use Rattle.grammar_core.specs.declared.Kind.TheVariants.{Syntax}
use Rattle.grammar_core.specs.declared.Fault.{Fault}
use Rattle.grammar_core.specs.Run.{refused}
use Rattle.grammar_core.specs.Readers.{◌>>=◌, end_at}
use Rattle.statement_parser.specs.Lines.{Manner, Line, ask_grid, ask_show, ask_legend, ask_stamps, blank, edit, ask, quit}
use Rattle.statement_parser.specs.Places.{name_of}
use Rattle.statement_parser.specs.Commands.{command_named}
use Rattle.statement_parser.specs.ReadEdits.{defined_at}
use Rattle.statement_parser.specs.ReadLabels.{label_at, symbol_at}
use Rattle.statement_parser.specs.ReadProcedures.{procedure_at}
use Rattle.statement_parser.specs.ReadBranches.{branches_at}
use Rattle.statement_parser.specs.ReadCommands.{paint_at, new_at, drop_at, value_at, any_line_at, table_at, undo_at, model_at, list_at}
use Rattle.statement_parser.specs.declared.command.Command.{Command}
use Rattle.statement_parser.specs.declared.command.Command.TheVariants.{Model, Procedure, Paint, New, Drop, Label, Symbol, Undo, Branch, Value, Grid, Show, Legend, Table, Stamps, List as Listing, Quit}

unfoldable pub define_at : Manner → Text → List Text → Result Line Fault
define_at m n ws = do
  e ← defined_at m n ws
  u ← end_at e.1
  Ok (edit e.0)

unfoldable pub quit_at : List Text → Result Line Fault
quit_at ws = do
  e ← end_at ws
  Ok quit

abbrev pub command_at : Manner → Command → List Text → Result Line Fault
command_at m Model ws = model_at ws
command_at m Procedure ws = procedure_at m ws
command_at m Paint ws = paint_at ws
command_at m New ws = new_at ws
command_at m Drop ws = drop_at ws
command_at m Label ws = label_at ws
command_at m Symbol ws = symbol_at ws
command_at m Undo ws = undo_at ws
command_at m Branch ws = branches_at m ws
command_at m Value ws = value_at ws
command_at m Grid ws = any_line_at (λ n. ask (ask_grid n)) ws
command_at m Show ws = any_line_at (λ n. ask (ask_show n)) ws
command_at m Legend ws = any_line_at (λ n. ask (ask_legend n)) ws
command_at m Table ws = table_at ws
command_at m Stamps ws = any_line_at (λ n. ask (ask_stamps n)) ws
command_at m Listing ws = list_at ws
command_at m Quit ws = quit_at ws

-- what a word that is no command begins
abbrev pub statement_at : Manner → Option Text → List Text → Result Line Fault
statement_at m None ws = refused Syntax (suc (length ws))
statement_at m (Some n) ws = define_at m n ws

abbrev pub started_at : Manner → Option Command → Text → List Text → Result Line Fault
started_at m (Some c) w ws = command_at m c ws
started_at m None w ws = statement_at m (name_of w) ws

unfoldable pub line_at : Manner → List Text → Result Line Fault
line_at m [] = Ok blank
line_at m (w ∷ ws) = started_at m (command_named m w) w ws
