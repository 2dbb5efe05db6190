use Rattle.std.proofs.Common.{◌≡◌, length}
use Rattle.statement_graph.specs.Groups.{nodes_in}
use Rattle.bench_texts.specs.Scenes.{IsFine}
use Rattle.bench_texts.proofs.plans.draw.Given as goal

abbrev pub invariant-loop-number : goal.invariant-loop-number
invariant-loop-number l = IsFine l.scene.graph l.scene.sources.keys l.scene.ops.entries × (length (nodes_in l.scene.graph) ≡ l.number)
