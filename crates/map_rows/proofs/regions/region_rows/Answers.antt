use Rattle.std.proofs.Common.{refl}
use Rattle.map_defs.specs.Rounds.{region_grid, region_net}
use Rattle.map_rows.proofs.regions.region_rows.Goals as goal

pub returns : goal.returns
unfolding region_grid region_net
returns c = record { whole = refl; split = refl; nulls = refl; corners = refl; smallest = refl }
