use Rattle.std.proofs.Common.{length}
use Rattle.statement_parser.proofs.tails.+push_signs.Given as goal

abbrev pub decreases-push_signs : goal.decreases-push_signs
decreases-push_signs l = length l.bytes.now
