use Rattle.std.proofs.Common.{◌<◌, sym, subst, ap, ◌∙◌}
use Rattle.map_nums.specs.Grids.{cells_in, cell_at}
use Rattle.layer_tiles.specs.Layers.{LayerState}
use Rattle.layer_tiles.proofs.layers.Layer.peek.Goals as goal

pub whole_cell-requires-clause-whole : goal.whole_cell-requires-clause-whole
whole_cell-requires-clause-whole c = rw (c.deref.ensures.value) c.self.invariant.whole

pub whole_cell-requires-clause-within : goal.whole_cell-requires-clause-within
whole_cell-requires-clause-within c = subst (λ (l : LayerState). c.args.at < cells_in l.size) (sym c.self.view_is) c.requires

pub returns : goal.returns
returns c = c.whole_cell.ensures ∙ rw (c.deref.ensures.value) (ap (λ (l : LayerState). cell_at l.cells c.args.at) c.self.view_is)
