use Rattle.std.proofs.Common.{Some, map, ap, sym, ◌∙◌}
use Rattle.map_defs.specs.Depths.{is_looped}
use Rattle.map_defs.specs.Ops.{layer_term}
use Rattle.map_defs.specs.Nodes.{Node}
use Rattle.statement_graph.specs.Groups.{nodes_in}
use Rattle.statement_graph.specs.Puts.{flat_nodes}
use Rattle.bench_texts.proofs.Growing.{none_there, put_is, fits, one_longer, sum_fine}
use Rattle.bench_texts.proofs.scene.Scene.define.Goals as goal

pub put-requires : goal.put-requires
put-requires c =
    fits c.args.self.now.graph c.args.self.now.sources.keys c.args.self.now.ops.entries c.requires.fine c.args.name.now (flat_nodes c.in_ok-nodes.nodes.items) (Some c.args.reads.items)
    (none_there (nodes_in c.args.self.now.graph) c.args.name.now c.depth.result c.depth.ensures (sym c.is_some.ensures ∙ c.if-is_some.false)) c.in_ok-nodes.ensures c.requires.room

pub returns-clause-fine : goal.returns-clause-fine
returns-clause-fine c =
    let groups = c.args.self.now.graph in
    let sources = c.args.self.now.sources.keys in
    let ops = c.args.self.now.ops.entries in
    let n = c.args.name.now in
    let x : Node = record { name = n; needs = Some c.args.reads.items } in
    let new = none_there (nodes_in groups) n c.depth.result c.depth.ensures (sym c.is_some.ensures ∙ c.if-is_some.false) in
    let is = put_is groups sources ops c.requires.fine n (flat_nodes c.in_ok-nodes.nodes.items) x c.put.new.self new c.in_ok-nodes.ensures c.in-Ok.ensures.0 in
    let sum = c.in_ok-put_sum.ensures in
    sum_fine groups sources ops c.requires.fine n c.args.reads.items c.requires.few new c.put.new.self is
    (ap (λ gs. is_looped (nodes_in gs) n) c.in-Ok.ensures.0 ∙ c.in-Ok.ensures.1) sum.op
    (sum.terms ∙ ap (map (λ m. layer_term m)) c.as_slice.ensures.value) c.put_sum.new.ops.entries sum.is sum.others

pub returns-clause-one : goal.returns-clause-one
returns-clause-one c =
    let groups = c.args.self.now.graph in
    let n = c.args.name.now in
    let x : Node = record { name = n; needs = Some c.args.reads.items } in
    let new = none_there (nodes_in groups) n c.depth.result c.depth.ensures (sym c.is_some.ensures ∙ c.if-is_some.false) in
    one_longer groups c.args.self.now.sources.keys c.args.self.now.ops.entries c.requires.fine x new c.put.new.self
    (put_is groups c.args.self.now.sources.keys c.args.self.now.ops.entries c.requires.fine n (flat_nodes c.in_ok-nodes.nodes.items) x c.put.new.self new c.in_ok-nodes.ensures c.in-Ok.ensures.0)
