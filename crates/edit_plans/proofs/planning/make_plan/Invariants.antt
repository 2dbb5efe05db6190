use Rattle.statement_graph.specs.Groups.{nodes_in}
use Rattle.edit_plans.specs.Planned.{source_names}
use Rattle.edit_plans.proofs.Steps.{IsPlannedTo}
use Rattle.edit_plans.proofs.planning.make_plan.Given as goal

abbrev pub invariant-loop-node : goal.invariant-loop-node
invariant-loop-node g l = IsPlannedTo (nodes_in l.graph) (source_names l.sources) (g.F.FlatStatements.all l.flats) l.old.keys l.node-index l.planned.names.keys l.planned.steps.items
