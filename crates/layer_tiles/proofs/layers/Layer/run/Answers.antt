use Rattle.std.proofs.Common.{◌≡◌, ◌<◌, sym, subst}
use Rattle.map_nums.specs.Grids.{cells_in}
use Rattle.layer_tiles.specs.Layers.{LayerState}
use Rattle.layer_tiles.specs.Runs.{run_length, IsRun}
use Rattle.layer_tiles.proofs.layers.Layer.run.Goals as goal

pub whole_run-requires-clause-whole : goal.whole_run-requires-clause-whole
whole_run-requires-clause-whole c = rw (c.deref.ensures.value) c.self.invariant.whole

pub whole_run-requires-clause-within : goal.whole_run-requires-clause-within
whole_run-requires-clause-within c = subst (λ (l : LayerState). c.args.at < cells_in l.size) (sym c.self.view_is) c.requires.within

pub whole_run-requires-clause-count : goal.whole_run-requires-clause-count
whole_run-requires-clause-count c = subst (λ (l : LayerState). c.args.count ≡ run_length l.size c.args.at) (sym c.self.view_is) c.requires.count

pub returns : goal.returns
returns c = subst (λ (l : LayerState). IsRun l.size l.cells c.args.at c.whole_run.result.now) c.self.view_is (rw (c.deref.ensures.value) at c.whole_run.ensures)
