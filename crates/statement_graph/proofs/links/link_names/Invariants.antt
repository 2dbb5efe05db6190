use Rattle.std.proofs.Common.{◌≡◌, ℕ, ◌+◌, ◌<◌, get_or, None, []}
use Rattle.statement_graph.specs.Seats.{nodes_at}
use Rattle.statement_graph.specs.Tables.{place_of}
use Rattle.statement_graph.proofs.links.link_names.Given as goal

abbrev pub invariant-loop-k : goal.invariant-loop-k
invariant-loop-k l = record {
  before : (j : ℕ) → j < l.start → get_or l.links j None ≡ get_or l.fn.links j None;
  linked : (j : ℕ) → j < l.k → get_or l.links (l.start + j) None ≡ place_of (nodes_at l.entries) (get_or l.names j []);
}
