use Rattle.std.proofs.Common.{length}
use Rattle.statement_parser.proofs.printing.+comma_terms.Given as goal

abbrev pub decreases-comma_terms : goal.decreases-comma_terms
decreases-comma_terms l = length l.terms.now
