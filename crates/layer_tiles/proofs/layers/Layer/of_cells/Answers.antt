use Rattle.std.proofs.Common.{◌≡◌, IfOk, subst}
use Rattle.map_nums.specs.Grids.{Cells}
use Rattle.layer_tiles.specs.Layers.{layer_of}
use Rattle.layer_tiles.proofs.layers.Layer.of_cells.Goals as goal

pub returns : goal.returns
returns c = subst (λ (xs : Cells). IfOk c.from_cells.result (λ layer. layer ≡ layer_of c.args.extent xs c.args.stamp)) c.deref.ensures.value c.from_cells.ensures
