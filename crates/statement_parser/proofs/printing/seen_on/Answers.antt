use Rattle.statement_parser.specs.Canonical.{sight_texts}
use Rattle.statement_parser.proofs.Adding.{if_then}
use Rattle.statement_parser.proofs.printing.seen_on.Goals as goal

pub returns : goal.returns
returns c = if_then c.heights.result c.heights.new.text.items (sight_texts (record { from = c.args.from.now; to = c.args.to.now; reach = c.args.reach })) c.in_ok-radiating.ensures c.heights.ensures
