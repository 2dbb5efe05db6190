use Rattle.statement_graph.specs.Seats.{nodes_at}
use Rattle.statement_graph.specs.Links.{IsFirstTo}
use Rattle.statement_graph.proofs.links.link_places.Given as goal

abbrev pub invariant-loop-at : goal.invariant-loop-at
invariant-loop-at l = IsFirstTo (nodes_at l.entries) l.at l.firsts
