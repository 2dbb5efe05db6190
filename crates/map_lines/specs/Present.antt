-- The rows of the language that are there: all that the parser knows, by where a line stands in a session.
use Rattle.std.specs.Prelude.{Bool, true, false, List, if◌then◌else◌}
use Rattle.statement_parser.specs.Lines.{Manner}
use Rattle.statement_parser.specs.Operations.{operations}
use Rattle.statement_parser.specs.Commands.{lasting_commands, commands}
use Rattle.statement_parser.specs.declared.command.Command.{Command}
use Rattle.statement_parser.specs.declared.language.Language.{Language}
use Rattle.statement_parser.specs.declared.language.Language.TheVariants.{One, Two}
use Rattle.statement_parser.specs.declared.language.Place.{Place}

-- where a session begins
abbrev pub first_place : Place
first_place = record { language = One; early = true }

-- whether a language lets nulls be ignored
abbrev pub may_ignore : Language → Bool
may_ignore One = false
may_ignore Two = true

-- the command that sets the language is there where it is early
abbrev pub commands_at : Place → List Command
commands_at p = if p.early then commands else lasting_commands

-- every operation and every command of the place, with sight and with calls
unfoldable pub rows_at : Place → Manner
rows_at p = record {
  operations = operations;
  commands = commands_at p;
  sight = true;
  calls = true;
  ignoring = may_ignore p.language;
}
