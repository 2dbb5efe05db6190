-- What stays where a zone is not listed.
use Rattle.std.specs.Prelude.{◌≡◌, List, Contains, ℤ}
use Rattle.map_nums.specs.declared.Stat.{Stat}
use Rattle.map_nums.specs.Grids.{Size, Cells}
use Rattle.map_defs.specs.Zonal.{zone_statistic}
use Rattle.zonal_totals.specs.ChangedZones.{AreChangedZones}

-- a zone that is not among those for which a count differs has the same statistic before and after
abbrev pub UnlistedZonesStay : Type 0
UnlistedZonesStay =
    (stat : Stat) (zs : List ℤ) (s : Size) (values zones values' zones' : Cells) (z : ℤ) → AreChangedZones zs s values zones values' zones' → (¬ Contains zs z)
    → zone_statistic stat s values zones z ≡ zone_statistic stat s values' zones' z
