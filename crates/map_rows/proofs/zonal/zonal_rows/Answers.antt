use Rattle.std.proofs.Common.{refl}
use Rattle.map_defs.specs.Zonal.{zonal_grid, zone_numbers}
use Rattle.map_rows.proofs.zonal.zonal_rows.Goals as goal

pub returns : goal.returns
unfolding zonal_grid zone_numbers
returns c = record { smallest = refl; before_first = refl; before_last = refl; before_middle = refl; after_first = refl; after_second = refl; after_middle = refl; after_last = refl; mean_of_all = refl; mean_of_own = refl; variety = refl; nothing = refl }
