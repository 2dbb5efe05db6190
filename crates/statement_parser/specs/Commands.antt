-- The words that lines begin with, but for names.
use Rattle.std.specs.Prelude.{Bool, List, [], ◌∷◌, Option, None, find, codes, bytes_eq, if◌then◌else◌}
use Rattle.std.specs.List.{list_any}
use Rattle.map_words.specs.Bytes.{Text}
use Rattle.statement_parser.specs.Lines.{Manner}
use Rattle.statement_parser.specs.declared.command.Command.{Command}
use Rattle.statement_parser.specs.declared.command.Command.TheVariants.{Model, Procedure, Paint, New, Drop, Label, Symbol, Undo, Branch, Value, Grid, Show, Legend, Table, Stamps, List as Listing, Quit}

abbrev pub command_text : Command → Text
command_text Model = codes "model"
command_text Procedure = codes "procedure"
command_text Paint = codes "paint"
command_text New = codes "new"
command_text Drop = codes "drop"
command_text Label = codes "label"
command_text Symbol = codes "symbol"
command_text Undo = codes "undo"
command_text Branch = codes "branch"
command_text Value = codes "value"
command_text Grid = codes "grid"
command_text Show = codes "show"
command_text Legend = codes "legend"
command_text Table = codes "table"
command_text Stamps = codes "stamps"
command_text Listing = codes "list"
command_text Quit = codes "quit"

-- the commands of every place
abbrev pub lasting_commands : List Command
lasting_commands = Procedure ∷ Paint ∷ New ∷ Drop ∷ Label ∷ Symbol ∷ Undo ∷ Branch ∷ Value ∷ Grid ∷ Show ∷ Legend ∷ Table ∷ Stamps ∷ Listing ∷ Quit ∷ []

-- all commands
abbrev pub commands : List Command
commands = Model ∷ lasting_commands

-- the command with this word
unfoldable pub find_command : Text → Option Command
find_command t = find (λ c. bytes_eq (command_text c) t) commands

-- a row of these has this word
abbrev pub has_command : List Command → Text → Bool
has_command cs t = list_any (λ c. bytes_eq (command_text c) t) cs

-- the command with this word, where it is there
unfoldable pub command_named : Manner → Text → Option Command
command_named m t = if has_command m.commands t then find_command t else None
