use Rattle.bench_texts.proofs.Growing.{are_sources}
use Rattle.bench_texts.proofs.scene.Scene.plan.Goals as goal

pub make_plan-requires-clause-sources : goal.make_plan-requires-clause-sources
make_plan-requires-clause-sources c = are_sources c.args.self.now.graph c.args.self.now.sources.keys c.args.self.now.ops.entries c.requires.fine
