use Rattle.std.proofs.Common.{◌≤◌, length}
use Rattle.statement_graph.specs.Groups.{nodes_in}
use Rattle.bench_texts.proofs.graph.full.Given as goal

abbrev pub invariant-loop-number : goal.invariant-loop-number
invariant-loop-number l = length (nodes_in l.graph) ≤ l.number
