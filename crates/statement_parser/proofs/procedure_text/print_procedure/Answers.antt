use Rattle.statement_parser.specs.Views.{procedure_view}
use Rattle.statement_parser.proofs.ProcedureBack.{reads_back}
use Rattle.statement_parser.proofs.procedure_text.print_procedure.Goals as goal

pub returns-clause-reads : goal.returns-clause-reads
returns-clause-reads c = reads_back (procedure_view c.args.procedure.now) c.in_ok-text.text.items c.in_ok-text.ensures
