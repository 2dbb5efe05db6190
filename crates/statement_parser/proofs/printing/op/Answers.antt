use Rattle.statement_parser.proofs.printing.op.Goals as goal

pub returns-in-Flow : goal.returns-in-Flow
returns-in-Flow c = rw c.in-Flow.is c.double-in-Flow.ensures
