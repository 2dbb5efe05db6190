use Rattle.statement_parser.specs.Canonical.{rates_texts}
use Rattle.statement_parser.proofs.Adding.{if_then}
use Rattle.statement_parser.proofs.printing.rating.Goals as goal

pub returns : goal.returns
returns c = if_then c.rates.result c.rates.new.text.items (rates_texts c.args.given.now) c.in_ok-begin.ensures c.rates.ensures
