use Rattle.statement_parser.proofs.LineOfLemmas.{settled_text}
use Rattle.statement_parser.proofs.laws.lines_are_settled.Goals as goal

pub returns : goal.returns
returns c = settled_text
