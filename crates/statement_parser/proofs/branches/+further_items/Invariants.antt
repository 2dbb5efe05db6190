use Rattle.statement_parser.proofs.branches.+further_items.Given as goal

abbrev pub decreases-further_items : goal.decreases-further_items
decreases-further_items l = l.most
