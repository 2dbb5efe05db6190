use Rattle.std.proofs.Common.{length}
use Rattle.statement_parser.proofs.procedure_text.+comma_names.Given as goal

abbrev pub decreases-comma_names : goal.decreases-comma_names
decreases-comma_names l = length l.names.now
