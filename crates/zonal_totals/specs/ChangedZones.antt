-- The zones for which the count of some value differs.
use Rattle.std.specs.Prelude.{◌≢◌, ◌↔◌, List, Contains, ℤ, ◌<ℤ◌}
use Rattle.std.specs.List.{AllPairs}
use Rattle.map_nums.specs.Grids.{Size, Cells, cell_at}
use Rattle.zonal_totals.specs.Books.{pairs_in}

-- the zones, in ascending order, for which the count of some value differs
pub record AreChangedZones (zs : List ℤ) (s : Size) (values zones values' zones' : Cells) : Type 0 where
  pub ascends : AllPairs (λ x y. x <ℤ y) zs
  pub exact : (z : ℤ) → Contains zs z ↔ ((k : ℤ) × (pairs_in s (cell_at zones) (cell_at values) (record { zone = z; key = k }) ≢ pairs_in s (cell_at zones') (cell_at values') (record { zone = z; key = k })))
