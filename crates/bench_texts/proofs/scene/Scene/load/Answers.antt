use Rattle.std.proofs.Common.{true, cond, bytes_eq, ap, sym, ◌∙◌}
use Rattle.std.specs.List.{list_any}
use Rattle.statement_graph.specs.Groups.{nodes_in}
use Rattle.bench_texts.proofs.Growing.{none_there, no_group, source_fine}
use Rattle.bench_texts.proofs.scene.Scene.load.Goals as goal

pub put_source-requires-clause-new : goal.put_source-requires-clause-new
put_source-requires-clause-new c =
    no_group c.args.self.now.graph c.args.self.now.sources.keys c.args.self.now.ops.entries c.requires.fine c.args.name.now
    (none_there (nodes_in c.args.self.now.graph) c.args.name.now c.depth.result c.depth.ensures (sym c.is_some.ensures ∙ c.if-is_some.false))

pub returns-clause-fine : goal.returns-clause-fine
returns-clause-fine c =
    source_fine c.args.self.now.graph c.args.self.now.sources.keys c.args.self.now.ops.entries c.requires.fine c.args.name.now
    (none_there (nodes_in c.args.self.now.graph) c.args.name.now c.depth.result c.depth.ensures (sym c.is_some.ensures ∙ c.if-is_some.false))
    c.put_source.new.self c.in-Ok.ensures.ok c.insert.new.self.keys
    (λ q. c.in-Ok-insert.ensures.updates.0 q ∙ ap (λ n. cond (bytes_eq n q) true (list_any (bytes_eq q) c.args.self.now.sources.keys)) c.in_ok-own.ensures)
