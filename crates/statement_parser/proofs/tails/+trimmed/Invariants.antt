use Rattle.std.proofs.Common.{length}
use Rattle.statement_parser.proofs.tails.+trimmed.Given as goal

abbrev pub decreases-trimmed : goal.decreases-trimmed
decreases-trimmed l = length l.bytes.now
