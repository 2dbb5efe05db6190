use Rattle.bench_texts.proofs.Growing.{empty_fine}
use Rattle.bench_texts.proofs.scene.Scene.new.Goals as goal

pub returns-clause-fine : goal.returns-clause-fine
returns-clause-fine c = empty_fine c.new.result c.new-2.result.keys c.new-3.result.entries c.new.ensures c.new-2.ensures.empty c.new-3.ensures.empty
