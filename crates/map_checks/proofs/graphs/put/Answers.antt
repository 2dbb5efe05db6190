use Rattle.std.proofs.Common.{arith}
use Rattle.std.proofs.lemmas.List.{length-map}
use Rattle.statement_graph.specs.Puts.{flat_node, flat_nodes}
use Rattle.statement_graph.proofs.Groupings.{length-put_group, length-put}
use Rattle.map_checks.proofs.graphs.put.Goals as goal

pub put-requires : goal.put-requires
put-requires c =
    let few = length-put_group c.args.graph.now c.args.name.now (flat_nodes c.in_ok-nodes.nodes.items) in
    let len = length-map c.in_ok-nodes.nodes.items flat_node in
    record {
      own = c.in_ok-nodes.ensures.own;
      few = (let two = c.in_ok-nodes.ensures.few in omega arith);
    }

pub returns : goal.returns
returns c =
    let le = length-put _ c.args.graph.now c.put.new.self c.args.name.now (flat_nodes c.in_ok-nodes.nodes.items) c.put.result c.put.ensures in
    let len = length-map c.in_ok-nodes.nodes.items flat_node in
    let two = c.in_ok-nodes.ensures.few in
    omega arith
