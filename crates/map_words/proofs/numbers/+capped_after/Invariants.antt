use Rattle.std.proofs.Common.{length}
use Rattle.map_words.proofs.numbers.+capped_after.Given as goal

abbrev pub decreases-capped_after : goal.decreases-capped_after
decreases-capped_after l = length l.text.now
