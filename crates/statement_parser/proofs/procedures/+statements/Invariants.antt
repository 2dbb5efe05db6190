use Rattle.statement_parser.proofs.procedures.+statements.Given as goal

abbrev pub decreases-statements : goal.decreases-statements
decreases-statements l = l.most
