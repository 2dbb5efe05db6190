use Rattle.std.proofs.Common.{length}
use Rattle.statement_parser.proofs.tails.+push_text.Given as goal

abbrev pub decreases-push_text : goal.decreases-push_text
decreases-push_text l = length l.bytes.now
