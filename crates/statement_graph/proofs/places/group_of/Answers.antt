use Rattle.statement_graph.proofs.Making.{group_made}
use Rattle.statement_graph.proofs.places.group_of.Goals as goal

pub returns-in_ok-push-in-Some : goal.returns-in_ok-push-in-Some
returns-in_ok-push-in-Some c =
    group_made c.args.nodes.items c.pop.new.self.items c.in-Some.own c.in_ok-entries-in-Some.entries.items c.push.new.self.items c.in-Some.ensures.items c.in_ok-entries-in-Some.ensures c.in_ok-push-in-Some.ensures.items
