use Rattle.statement_parser.proofs.LineOfLemmas.{line_of_is}
use Rattle.statement_parser.proofs.laws.lines_are_read.Goals as goal

pub returns : goal.returns
returns c = line_of_is
