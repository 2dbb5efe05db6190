use Rattle.std.proofs.Common.{◌≡◌, fold, max, take}
use Rattle.statement_graph.proofs.ordering.deepest.Given as goal

abbrev pub invariant-loop-row : goal.invariant-loop-row
invariant-loop-row l = l.depth ≡ fold (λ d r. max d r.depth) 0 (take l.row-index l.rows)
