use Rattle.std.proofs.Common.{length}
use Rattle.statement_parser.proofs.printing.+rates.Given as goal

abbrev pub decreases-rates : goal.decreases-rates
decreases-rates l = length l.rates.now
