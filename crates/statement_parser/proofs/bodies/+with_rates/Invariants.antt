use Rattle.statement_parser.proofs.bodies.+with_rates.Given as goal

abbrev pub decreases-with_rates : goal.decreases-with_rates
decreases-with_rates l = l.most
