use Rattle.std.proofs.Common.{Bool, true, List, subst}
use Rattle.statement_parser.specs.Operations.{operations}
use Rattle.statement_parser.specs.Parsed.{IsParsed}
use Rattle.statement_parser.specs.Views.{line_view}
use Rattle.statement_parser.specs.declared.command.Command.{Command}
use Rattle.statement_parser.specs.declared.operation.Operation.{Operation}
use Rattle.map_lines.specs.Present.{commands_at, may_ignore, rows_at}
use Rattle.map_lines.proofs.parse_line.Goals as goal

pub returns-clause-parsed : goal.returns-clause-parsed
unfolding rows_at
returns-clause-parsed c =
    let P = λ (os : List Operation) (cs : List Command) (ignoring : Bool). IsParsed (record { operations = os; commands = cs; sight = true; calls = true; ignoring = ignoring }) line_view c.args.line.now c.parse_line.result in
    subst (λ os. P os (commands_at c.args.place) (may_ignore c.args.place.language)) c.all_operations.ensures
    (subst (λ cs. P c.all_operations.result.now cs (may_ignore c.args.place.language)) c.commands_at.ensures
    (subst (λ ignoring. P c.all_operations.result.now c.commands_at.result.now ignoring) c.may_ignore.ensures c.parse_line.ensures.parsed))
