-- The grammar of lines.
use Rattle.std.specs.Prelude.{List, Some}
use Rattle.map_words.specs.Bytes.{Text}
use Rattle.grammar_core.specs.Rules.{Rule, Derives, node, ends, on, next, ◌<|>◌}
use Rattle.statement_parser.specs.Lines.{Manner, ask_value, ask_grid, ask_show, ask_legend, ask_table, ask_stamps, ask_list, Line, blank, edit, undo, ask, model, quit}
use Rattle.statement_parser.specs.Commands.{command_named}
use Rattle.statement_parser.specs.Places.{name_of, any_of, version_of}
use Rattle.statement_parser.specs.EditRules.{define_part, paint_part, new_part, drop_part, value_part}
use Rattle.statement_parser.specs.Labels.{label_rule, symbol_rule}
use Rattle.statement_parser.specs.ProcedureRules.{procedure_rule}
use Rattle.statement_parser.specs.BranchRules.{branch_rule}
use Rattle.statement_parser.specs.declared.command.Command.{Command}
use Rattle.statement_parser.specs.declared.command.Command.TheVariants.{Model, Procedure, Paint, New, Drop, Label, Symbol, Undo, Branch, Value, Grid, Show, Legend, Table, Stamps, List as Listing, Quit}

abbrev pub define_rule : Manner → Text → Rule Text Line
define_rule m n = define_part m n (λ e. ends (edit e))

-- any
abbrev pub any_rule : (Text → Line) → Rule Text Line
any_rule make = next any_of (λ n. ends (make n))

-- any any
abbrev pub table_rule : Rule Text Line
table_rule = next any_of (λ n. next any_of (λ v. ends (ask (ask_table n v))))

-- VERSION
abbrev pub model_rule : Rule Text Line
model_rule = next version_of (λ l. ends (model l))

-- what follows the word of each command
abbrev pub command_rule : Manner → Command → Rule Text Line
command_rule m Model = model_rule
command_rule m Procedure = procedure_rule m
command_rule m Paint = paint_part (λ e. ends (edit e))
command_rule m New = new_part (λ e. ends (edit e))
command_rule m Drop = drop_part (λ e. ends (edit e))
command_rule m Label = label_rule
command_rule m Symbol = symbol_rule
command_rule m Undo = ends undo
command_rule m Branch = branch_rule m
command_rule m Value = value_part (λ n r c. ends (ask (ask_value n r c)))
command_rule m Grid = any_rule (λ n. ask (ask_grid n))
command_rule m Show = any_rule (λ n. ask (ask_show n))
command_rule m Legend = any_rule (λ n. ask (ask_legend n))
command_rule m Table = table_rule
command_rule m Stamps = any_rule (λ n. ask (ask_stamps n))
command_rule m Listing = ends (ask ask_list)
command_rule m Quit = ends quit

-- a line: nothing, a command, or a statement
abbrev pub line_rule : Manner → Rule Text Line
line_rule m = node (Some blank) (on (command_named m) (command_rule m) <|> on name_of (define_rule m))

-- the words are this line
abbrev pub IsLine : Manner → List Text → Line → Type 0
IsLine m ws x = Derives (line_rule m) ws x
