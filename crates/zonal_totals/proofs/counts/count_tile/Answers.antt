use Rattle.std.proofs.Common.{◌+ℤ◌, ◌∙◌, ap, arith, refl, None, ℤ}
use Rattle.std.proofs.lemmas.List.{get_or-replicate}
use Rattle.std.proofs.lemmas.Result.{IfOk-weaker}
use Rattle.map_nums.specs.Grids.{Size}
use Rattle.layer_tiles.specs.Tiles.{tile_height, tile_width}
use Rattle.zonal_totals.specs.declared.pairs.Pair.{Pair}
use Rattle.zonal_totals.specs.Running.{steps_of}
use Rattle.zonal_totals.specs.Steps.{net_in}
use Rattle.zonal_totals.proofs.Drafting.{few_tiles, on_any}
use Rattle.zonal_totals.proofs.Ranging.{values_counted, zones_counted}
use Rattle.zonal_totals.proofs.counts.count_tile.Goals as goal

pub number_cell-keys-requires : goal.number_cell-keys-requires
number_cell-keys-requires g c = omega (arith, c.requires.within, few_tiles c.args.zones.now.size c.extent.ensures.size)

pub count_zones-requires-clause-keys : goal.count_zones-requires-clause-keys
count_zones-requires-clause-keys g c = record { count = refl; one = λ k h. get_or-replicate 32 k c.number_cell-keys.result None h }

pub returns-clause-values : goal.returns-clause-values
returns-clause-values g c =
    on_any c.count_zones.result (λ (p : Pair).
    let values = c.args.values.now in
    let zones = c.args.zones.now in
    let place = c.place-place.ensures.place in
    let tall = place.height ∙ ap (λ (s : Size). tile_height s c.args.tile) c.extent.ensures.extent in
    let wide = place.width ∙ ap (λ (s : Size). tile_width s c.args.tile) c.extent.ensures.extent in
    c.in_ok-count_values.ensures.net p
    ∙ ap (λ (x : ℤ). net_in (steps_of c.args.counting.now.values) p +ℤ x)
    (values_counted zones.size c.extent.ensures.size c.args.tile c.requires.within p values zones c.requires.size refl c.view-new_zones.result c.view-new_values.result _ _ c.view-new_zones.ensures.tile c.view-new_values.ensures.tile tall wide))

pub returns-clause-tiles : goal.returns-clause-tiles
returns-clause-tiles g c =
    IfOk-weaker c.count_zones.result _ _ (λ _ (h : (p : Pair) → _) (p : Pair).
    let zones = c.args.zones.now in
    let place = c.place-place.ensures.place in
    let tall = place.height ∙ ap (λ (s : Size). tile_height s c.args.tile) c.extent.ensures.extent in
    let wide = place.width ∙ ap (λ (s : Size). tile_width s c.args.tile) c.extent.ensures.extent in
    h p ∙ ap (λ (x : ℤ). net_in (steps_of c.args.counting.now.tiles) p +ℤ x)
    (zones_counted zones.size c.extent.ensures.size c.args.tile c.requires.within p zones refl c.view-new_zones.result c.number_cell-keys.result _ _ c.view-new_zones.ensures.tile c.number_cell-keys.ensures tall wide))
    c.count_zones.ensures.net
