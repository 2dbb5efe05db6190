use Rattle.std.proofs.Common.{refl}
use Rattle.map_defs.specs.Zonal.{zonal_grid, zone_numbers}
use Rattle.map_defs.specs.Drainage.{direction_grid, direction_at, winner_at}
use Rattle.map_defs.specs.Flow.{flow_grid, flow_at, course_of, downstream_of}
use Rattle.map_defs.specs.Sight.{sight_grid, sight_at, sees}
use Rattle.map_defs.specs.Rounds.{spread_grid, spread_net, region_grid, region_net}
use Rattle.map_defs.specs.Spread.{step_cost}
use Rattle.map_nums.specs.Stats.{majority_of, occurrences}
use Rattle.map_rows.proofs.whole.whole_rows.Goals as goal

pub returns : goal.returns
unfolding zonal_grid zone_numbers direction_grid direction_at winner_at flow_grid flow_at course_of downstream_of sight_grid sight_at sees spread_grid spread_net region_grid region_net step_cost majority_of occurrences
returns c = record { first_directions = refl; first_flow = refl; first_zonal_majority = refl; first_zonal_mean = refl; first_sight = refl; first_sight_near = refl; first_spread = refl; first_spread_short = refl; first_regions = refl; second_directions = refl; second_flow = refl; second_zonal_majority = refl; second_zonal_mean = refl; second_sight = refl; second_sight_near = refl; second_spread = refl; second_spread_short = refl; second_regions = refl; third_directions = refl; third_flow = refl; third_zonal_majority = refl; third_zonal_mean = refl; third_sight = refl; third_sight_near = refl; third_spread = refl; third_spread_short = refl; third_regions = refl }
