use Rattle.std.proofs.Common.{rules, ◌∙◌}
use Rattle.map_words.proofs.Digits.{unsigned_is}
use Rattle.map_words.proofs.numbers.unsigned.Goals as goal

pub returns-else-is_empty : goal.returns-else-is_empty
returns-else-is_empty c = c.capped_after.ensures ∙ unsigned_is 18446744073709551615 c.args.text.now (search rules)
