use Rattle.std.proofs.Common.{length}
use Rattle.map_words.proofs.naming.+are_later_parts.Given as goal

abbrev pub decreases-are_later_parts : goal.decreases-are_later_parts
decreases-are_later_parts l = length l.text.now
