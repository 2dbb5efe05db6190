use Rattle.std.proofs.Common.{◌≤◌, map, length, ap, ◌∙◌, arith}
use Rattle.std.proofs.lemmas.List.{length-map}
use Rattle.statement_graph.specs.Groups.{nodes_in}
use Rattle.statement_graph.specs.Puts.{flat_node}
use Rattle.statement_graph.specs.Wholes.{whole_nodes}
use Rattle.edit_plans.specs.Planned.{source_names}
use Rattle.edit_plans.proofs.Steps.{given_at, all_shallow, is_ready, is_new, planned_next, planned_all}
use Rattle.edit_plans.proofs.planning.make_plan.Goals as goal

pub next_step-requires-clause-ready : goal.next_step-requires-clause-ready
next_step-requires-clause-ready g c =
    let here = given_at c.as_slice-node-items.result.now (whole_nodes (nodes_in c.args.graph.now)) c.loop-node.node-index c.node-item.result
    (ap (map (λ b. flat_node b.now)) c.as_slice-node-items.ensures.value ∙ c.in_ok-nodes.ensures) c.loop-node-test.true c.node-item.is in
    is_ready (nodes_in c.args.graph.now) c.requires.acyclic c.requires.apart (source_names c.args.sources) c.requires.sources (g.F.FlatStatements.all c.args.flats.now) c.requires.flats c.args.old.now.keys c.loop-node.node-index c.loop-node.planned.names.keys c.loop-node.planned.steps.items c.loop-node.invariant (flat_node c.node-item.result.now) here

pub next_step-requires-clause-shallow : goal.next_step-requires-clause-shallow
next_step-requires-clause-shallow g c = all_shallow (nodes_in c.args.graph.now) c.requires.acyclic c.requires.apart (source_names c.args.sources) c.requires.sources (g.F.FlatStatements.all c.args.flats.now) c.requires.flats c.args.old.now.keys c.loop-node.node-index c.loop-node.planned.names.keys c.loop-node.planned.steps.items c.loop-node.invariant c.requires.few

pub push-requires : goal.push-requires
push-requires g c =
    let here = given_at c.as_slice-node-items.result.now (whole_nodes (nodes_in c.args.graph.now)) c.loop-node.node-index c.node-item.result
    (ap (map (λ b. flat_node b.now)) c.as_slice-node-items.ensures.value ∙ c.in_ok-nodes.ensures) c.loop-node-test.true c.node-item.is in
    is_new (nodes_in c.args.graph.now) c.requires.acyclic c.requires.apart (source_names c.args.sources) c.requires.sources (g.F.FlatStatements.all c.args.flats.now) c.requires.flats c.args.old.now.keys c.loop-node.node-index c.loop-node.planned.names.keys c.loop-node.planned.steps.items c.loop-node.invariant (flat_node c.node-item.result.now) here

pub loop-node-preserved : goal.loop-node-preserved
loop-node-preserved g c =
    let here = given_at c.as_slice-node-items.result.now (whole_nodes (nodes_in c.args.graph.now)) c.loop-node.node-index c.node-item.result
    (ap (map (λ b. flat_node b.now)) c.as_slice-node-items.ensures.value ∙ c.in_ok-nodes.ensures) c.loop-node-test.true c.node-item.is in
    planned_next (nodes_in c.args.graph.now) c.requires.acyclic c.requires.apart (source_names c.args.sources) c.requires.sources (g.F.FlatStatements.all c.args.flats.now) c.requires.flats c.args.old.now.keys c.loop-node.node-index c.loop-node.planned.names.keys c.loop-node.planned.steps.items c.loop-node.invariant (flat_node c.node-item.result.now) here
    c.in_ok-step.step c.in_ok-step.ensures c.push.new.self.names.keys c.push.new.self.steps.items c.in_ok-push.ensures.names c.in_ok-push.ensures.steps

pub returns : goal.returns
returns g c =
    let count = length-map c.as_slice-node-items.result.now (λ b. flat_node b.now) in
    let whole = ap length (ap (map (λ b. flat_node b.now)) c.as_slice-node-items.ensures.value ∙ c.in_ok-nodes.ensures) in
    let long : length (whole_nodes (nodes_in c.args.graph.now)) ≤ c.loop-node.node-index = omega (arith, c.loop-node-test.false) in
    planned_all (nodes_in c.args.graph.now) c.requires.acyclic c.requires.apart (source_names c.args.sources) c.requires.sources (g.F.FlatStatements.all c.args.flats.now) c.requires.flats c.args.old.now.keys c.loop-node.node-index c.loop-node.planned.names.keys c.loop-node.planned.steps.items c.loop-node.invariant long
