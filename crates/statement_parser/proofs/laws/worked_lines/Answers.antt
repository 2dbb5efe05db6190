use Rattle.statement_parser.proofs.Computed.{rows}
use Rattle.statement_parser.proofs.laws.worked_lines.Goals as goal

pub returns : goal.returns
returns c = rows
