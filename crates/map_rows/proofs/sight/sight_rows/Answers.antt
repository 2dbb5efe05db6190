use Rattle.std.proofs.Common.{refl}
use Rattle.map_defs.specs.Sight.{sight_grid, sight_at, sees}
use Rattle.map_rows.proofs.sight.sight_rows.Goals as goal

pub returns : goal.returns
unfolding sight_grid sight_at sees
returns c = record { slope = refl; ridge = refl; higher = refl; nearer = refl; no_surface = refl }
