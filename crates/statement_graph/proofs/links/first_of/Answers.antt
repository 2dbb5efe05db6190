use Rattle.statement_graph.proofs.Finding.{first_found, never_lost}
use Rattle.statement_graph.proofs.Linking.{first_before}
use Rattle.statement_graph.proofs.links.first_of.Goals as goal

pub returns-in-None-clause-first : goal.returns-in-None-clause-first
returns-in-None-clause-first c = absurd (never_lost c.args.entries.now c.args.at c.index-entries-at.result c.name.result.now c.place_of.result c.requires c.index-entries-at.is c.name.ensures c.place_of.ensures c.in-None.is)

pub returns-in-Some-clause-before : goal.returns-in-Some-clause-before
returns-in-Some-clause-before c = first_before c.args.entries.now c.args.at c.in-Some.first c.index-entries-at.result c.name.result.now c.place_of.result c.requires c.index-entries-at.is c.name.ensures c.place_of.ensures c.in-Some.is

pub returns-in-Some-clause-first : goal.returns-in-Some-clause-first
returns-in-Some-clause-first c = first_found c.args.entries.now c.args.at c.in-Some.first c.index-entries-at.result c.name.result.now c.place_of.result c.requires c.index-entries-at.is c.name.ensures c.place_of.ensures c.in-Some.is
