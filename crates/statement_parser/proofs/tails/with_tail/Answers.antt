use Rattle.std.proofs.Common.{sym, ap, ◌∙◌}
use Rattle.map_words.specs.Cut.{placed_all}
use Rattle.statement_parser.specs.Tails.{tail_of as tail_of_words}
use Rattle.statement_parser.proofs.Recutting.{tail_within}
use Rattle.statement_parser.proofs.tails.with_tail.Goals as goal

pub push_tail-requires-clause-within : goal.push_tail-requires-clause-within
push_tail-requires-clause-within c =
    tail_within c.args.line.now (placed_all c.args.words.items) c.in-Some.tail c.requires.slices
    (ap (λ ws. tail_of_words (placed_all ws)) (sym c.as_slice.ensures.value) ∙ sym c.tail_of.ensures ∙ c.in-Some.is)
