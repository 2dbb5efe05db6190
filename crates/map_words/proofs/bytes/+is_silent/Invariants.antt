use Rattle.std.proofs.Common.{length}
use Rattle.map_words.proofs.bytes.+is_silent.Given as goal

abbrev pub decreases-is_silent : goal.decreases-is_silent
decreases-is_silent l = length l.line.now
