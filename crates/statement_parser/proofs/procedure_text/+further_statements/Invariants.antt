use Rattle.std.proofs.Common.{length}
use Rattle.statement_parser.proofs.procedure_text.+further_statements.Given as goal

abbrev pub decreases-further_statements : goal.decreases-further_statements
decreases-further_statements l = length l.body.now
