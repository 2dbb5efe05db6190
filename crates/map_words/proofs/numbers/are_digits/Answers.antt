use Rattle.std.proofs.Common.{rules, ◌∙◌}
use Rattle.map_words.proofs.Digits.{all_is}
use Rattle.map_words.proofs.numbers.are_digits.Goals as goal

pub returns-else-is_empty : goal.returns-else-is_empty
returns-else-is_empty c = c.all_digits.ensures ∙ all_is c.args.text.now (search rules)
