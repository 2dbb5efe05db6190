use Rattle.statement_parser.specs.Canonical.{ignoring_texts}
use Rattle.statement_parser.proofs.Adding.{if_then}
use Rattle.statement_parser.proofs.printing.operands.Goals as goal

pub returns : goal.returns
returns c = if_then c.ignoring.result c.ignoring.new.text.items (ignoring_texts c.args.ignored) c.in_ok-terms.ensures c.ignoring.ensures
