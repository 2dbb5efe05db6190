use Rattle.std.proofs.Common.{length}
use Rattle.statement_parser.proofs.printing.+and_terms.Given as goal

abbrev pub decreases-and_terms : goal.decreases-and_terms
decreases-and_terms l = length l.terms.now
