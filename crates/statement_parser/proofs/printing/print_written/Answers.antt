use Rattle.statement_parser.specs.Views.{written_view}
use Rattle.statement_parser.proofs.BackBytes.{reads_back}
use Rattle.statement_parser.proofs.printing.print_written.Goals as goal

pub returns-clause-reads : goal.returns-clause-reads
returns-clause-reads c = reads_back c.args.name.now (written_view c.args.written.now) c.in_ok-text.text.items c.in_ok-text.ensures
