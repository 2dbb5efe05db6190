use Rattle.std.proofs.Common.{sym, ◌∙◌}
use Rattle.statement_parser.proofs.Recutting.{trimmed_blank, trimmed_other}
use Rattle.statement_parser.proofs.tails.+trimmed.Goals as goal

pub returns-then-is_blank-clause-text : goal.returns-then-is_blank-clause-text
returns-then-is_blank-clause-text t c = c.trimmed.ensures.text ∙ trimmed_blank c.args.bytes.now c.in-len1-up.len_at_least (sym c.is_blank.ensures ∙ c.if-is_blank.true)

pub returns-else-is_blank-clause-text : goal.returns-else-is_blank-clause-text
returns-else-is_blank-clause-text t c = trimmed_other c.args.bytes.now c.in-len1-up.len_at_least (sym c.is_blank.ensures ∙ c.if-is_blank.false)
