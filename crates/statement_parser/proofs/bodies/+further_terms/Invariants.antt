use Rattle.statement_parser.proofs.bodies.+further_terms.Given as goal

abbrev pub decreases-further_terms : goal.decreases-further_terms
decreases-further_terms l = l.most
