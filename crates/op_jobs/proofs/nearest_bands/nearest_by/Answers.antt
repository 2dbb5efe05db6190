use Rattle.std.proofs.Common.{◌≡◌, ℕ, [], refl, ap, subst, ◌∙◌}
use Rattle.map_nums.specs.Grids.{Size, Cells}
use Rattle.layer_tiles.specs.Layers.{LayerState, layer_of}
use Rattle.layer_tiles.specs.Patches.{PatchState, patched}
use Rattle.friction_spread.specs.Costs.{GroundState}
use Rattle.friction_neighbor.specs.Bands.{IsNearestList}
use Rattle.op_jobs.specs.Beside.{AreCosts}
use Rattle.map_waves.specs.declared.keeping.Aside.TheVariants.{Layer}
use Rattle.op_jobs.proofs.Bands.{ground_same, nearest_kind, nearest_are}
use Rattle.op_jobs.proofs.WholeLayers.{limit_fits}
use Rattle.op_jobs.proofs.nearest_bands.nearest_by.Goals as goal

pub all_of-requires : goal.all_of-requires
all_of-requires c = λ k p e. nearest_kind _ k _ p (c.requires.each k p e)

pub nearest_of_bands-requires-clause-bands : goal.nearest_of_bands-requires-clause-bands
nearest_of_bands-requires-clause-bands c =
    let same = ground_same c.args.extent _ _ _ _ c.args.ground.now.limit _ c.deref.ensures.value c.deref-2.ensures.value (limit_fits c.args.ground.now.limit c.requires.cells.low) in
    nearest_are _ _ c.in_ok-bands.bands.items _ c.args.parts.items same refl c.requires.some c.in_ok-bands.ensures.count c.in_ok-bands.ensures.each c.requires.each

-- the layer of a patch of all costs
costs_beside : (s : Size) (patch : PatchState) (cells : Cells) (layer : LayerState) (stamp : ℕ) → layer ≡ layer_of patch.size (patched patch.size [] patch.tiles) stamp → patch.size ≡ s → patched s [] patch.tiles ≡ cells → AreCosts s cells (Layer layer)
costs_beside s patch cells layer stamp is size are = (ap (λ (l : LayerState). l.size) is ∙ size, ap (λ (l : LayerState). l.cells) is ∙ ap (λ z. patched z [] patch.tiles) size ∙ are)

pub returns : goal.returns
returns c =
    let same = ground_same c.args.extent _ _ _ _ c.args.ground.now.limit _ c.deref.ensures.value c.deref-2.ensures.value (limit_fits c.args.ground.now.limit c.requires.cells.low) in
    let costs = c.in_ok-costs.ensures in
    record {
      numbers = c.in_ok-list.list;
      list_is = refl;
      are = subst (λ (g : GroundState). IsNearestList g c.in_ok-list.list) same c.in_ok-list.ensures;
      beside_is = costs_beside c.args.extent c.in_ok-costs.costs _ c.fresh.result _ c.fresh.ensures costs.size costs.cells;
      work_is = c.worked-worked.ensures;
    }
