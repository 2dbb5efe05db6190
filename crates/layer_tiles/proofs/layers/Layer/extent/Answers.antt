use Rattle.std.proofs.Common.{subst}
use Rattle.layer_tiles.specs.Layers.{LayerState, IsLayer}
use Rattle.layer_tiles.proofs.AllTiles.{whole_layer}
use Rattle.layer_tiles.proofs.layers.Layer.extent.Goals as goal

pub returns-clause-layer : goal.returns-clause-layer
returns-clause-layer c =
    let i = c.self.inside in
    subst (λ (l : LayerState). IsLayer l) c.self.view_is (whole_layer i.extent i.tiles.items i.stamps.items c.self.invariant)
