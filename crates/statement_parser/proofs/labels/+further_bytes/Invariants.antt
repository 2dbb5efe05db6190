use Rattle.statement_parser.proofs.labels.+further_bytes.Given as goal

abbrev pub decreases-further_bytes : goal.decreases-further_bytes
decreases-further_bytes l = l.most
