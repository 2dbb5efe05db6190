use Rattle.std.proofs.Common.{arith}
use Rattle.std.proofs.lemmas.List.{length-map}
use Rattle.statement_graph.specs.Puts.{flat_node, flat_nodes}
use Rattle.statement_graph.proofs.Groupings.{length-put_group, length-put}
use Rattle.bench_texts.proofs.graph.define.Goals as goal

pub put-requires : goal.put-requires
put-requires c =
    let nodes = c.in_ok-nodes.nodes.items in
    let few = length-put_group c.args.graph.now c.in_ok-name.name (flat_nodes nodes) in
    let len = length-map nodes flat_node in
    let one = c.in_ok-nodes.ensures.one in
    record {
      own = c.in_ok-nodes.ensures.own;
      few = omega arith;
    }

pub returns : goal.returns
returns c =
    let nodes = c.in_ok-nodes.nodes.items in
    let le = length-put _ c.args.graph.now c.put.new.self c.in_ok-name.name (flat_nodes nodes) c.put.result c.put.ensures in
    let len = length-map nodes flat_node in
    let one = c.in_ok-nodes.ensures.one in
    omega arith
