use Rattle.std.proofs.Common.{refl}
use Rattle.map_defs.specs.Drainage.{direction_grid, direction_at, winner_at}
use Rattle.map_defs.specs.Flow.{flow_grid, flow_at, course_of, downstream_of}
use Rattle.map_rows.proofs.drainage.drainage_rows.Goals as goal

pub returns : goal.returns
unfolding direction_grid direction_at winner_at flow_grid flow_at course_of downstream_of
returns c = record { down = refl; gathered = refl; course = refl; down_filled = refl; gathered_filled = refl; plain_down = refl; plain_gathered = refl; smallest_down = refl; smallest_gathered = refl; null_surface = refl; null_weight = refl }
