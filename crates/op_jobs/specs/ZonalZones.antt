-- Tiles of zones whose statistic differs.
use Rattle.std.specs.Prelude.{◌≡◌, ℕ, ◌<◌, not, true, List, Contains, slice_get, ℤ, Some}
use Rattle.std.specs.List.{AllPairs}
use Rattle.map_nums.specs.declared.Stat.{Stat}
use Rattle.map_nums.specs.Grids.{Size, Cells}
use Rattle.map_defs.specs.Cells.{same_cell}
use Rattle.map_defs.specs.Zonal.{zone_statistic}
use Rattle.zonal_totals.specs.Tilings.{HasZone}

-- tile t has, after the edit, a cell of zone z, which has another statistic than before
pub record IsOfOther (stat : Stat) (s : Size) (values zones values' zones' : Cells) (z : ℤ) (t : ℕ) : Type 0 where
  pub other : not (same_cell (zone_statistic stat s values zones z) (zone_statistic stat s values' zones' z)) ≡ true
  pub has : HasZone s zones' z t

-- tile t has, after the edit, a cell of one of the first n zones, which has another statistic than before
pub record HasOtherZone (stat : Stat) (s : Size) (values zones values' zones' : Cells) (zs : List ℤ) (n t : ℕ) : Type 0 where
  pub place : ℕ
  pub below : place < n
  pub zone : ℤ
  pub listed : slice_get zs place ≡ Some zone
  pub is : IsOfOther stat s values zones values' zones' zone t

-- the tiles that have a cell of zone z, in ascending order
pub record AreTilesOf (s : Size) (zones : Cells) (z : ℤ) (list : List ℕ) : Type 0 where
  pub ascends : AllPairs (λ t u. t < u) list
  pub all : (t : ℕ) → HasZone s zones z t → Contains list t
  pub only : (t : ℕ) → Contains list t → HasZone s zones z t

-- tile t is one of the first n of them
abbrev pub IsAmongFirst : List ℕ → ℕ → ℕ → Type 0
IsAmongFirst list n t = (k : ℕ) × (k < n) × (slice_get list k ≡ Some t)
