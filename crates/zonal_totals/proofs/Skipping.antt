-- Tiles that no patch holds add nothing to the changes.
use Rattle.std.proofs.Common.{◌≡◌, ℕ, ◌≤◌, arith}
use Rattle.map_nums.specs.Grids.{IsSize}
use Rattle.layer_tiles.specs.Tiles.{tiles_in, tile_size}
use Rattle.layer_tiles.specs.Changes.{ChangeState}
use Rattle.zonal_totals.specs.declared.pairs.Pair.{Pair}
use Rattle.zonal_totals.specs.Sums.{sum_to, place_of}
use Rattle.zonal_totals.specs.Drafts.{AreFree, value_shift, tile_shift}
use Rattle.zonal_totals.proofs.Steady.{IsSteady}
use Rattle.zonal_totals.proofs.Sums.{sum_gap}
use Rattle.zonal_totals.proofs.Drafting.{still_values, still_zones}
use Rattle.zonal_totals.proofs.Looking.{not_values, not_zones}

module _ (values zones : ChangeState) (e : values.size ≡ zones.size) (size : IsSize zones.size) (sv : IsSteady values) (sz : IsSteady zones)
    (n m : ℕ) (h : n ≤ m) (within : m ≤ tiles_in zones.size) (free : AreFree values zones n m) (p : Pair) where
  pub skip_values : sum_to (λ t. sum_to (λ k. value_shift values zones p (place_of zones.size t k)) (tile_size zones.size t)) m ≡ sum_to (λ t. sum_to (λ k. value_shift values zones p (place_of zones.size t k)) (tile_size zones.size t)) n
  skip_values = sum_gap _ n m h (λ t a b. still_values values zones e size t (omega arith) sv sz (not_values values zones t (free t a b)) (not_zones values zones t (free t a b)) p)

  pub skip_zones : sum_to (λ t. sum_to (λ k. tile_shift zones p (place_of zones.size t k)) (tile_size zones.size t)) m ≡ sum_to (λ t. sum_to (λ k. tile_shift zones p (place_of zones.size t k)) (tile_size zones.size t)) n
  skip_zones = sum_gap _ n m h (λ t a b. still_zones values zones e size t (omega arith) sv sz (not_values values zones t (free t a b)) (not_zones values zones t (free t a b)) p)
