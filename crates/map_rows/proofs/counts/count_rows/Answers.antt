use Rattle.std.proofs.Common.{refl}
use Rattle.map_defs.specs.Local.{local_grid}
use Rattle.map_defs.specs.Focal.{focal_grid, focal_numbers, square, disc}
use Rattle.map_defs.specs.Zonal.{zonal_grid, zone_numbers}
use Rattle.map_defs.specs.Slopes.{octant}
use Rattle.map_defs.specs.Roots.{floor_root}
use Rattle.map_defs.specs.Incremental.{form_grid, linkage_at, length_at, partition_at, frontage_at, gradient_at, aspect_at}
use Rattle.map_defs.specs.Drainage.{direction_grid, direction_at, winner_at}
use Rattle.map_defs.specs.Flow.{flow_grid, flow_at, course_of, downstream_of}
use Rattle.map_defs.specs.Sight.{sight_grid, sight_at, sees}
use Rattle.map_defs.specs.Rounds.{spread_grid, spread_net, region_grid, region_net}
use Rattle.map_defs.specs.Spread.{step_cost}
use Rattle.map_defs.specs.Nearest.{nearest_grid}
use Rattle.map_defs.specs.Operate.{operate}
use Rattle.map_nums.specs.Stats.{maximum_of, minimum_of}
use Rattle.map_nums.specs.Tiles.{tiles_across, tiles_down, tiles_in, tile_top, tile_left, tile_of}
use Rattle.map_defs.specs.Tiles.{is_in_square}
use Rattle.map_defs.specs.Damage.{op_damage, changed_tiles}
use Rattle.map_defs.specs.Work.{op_work}
use Rattle.map_rows.proofs.counts.count_rows.Goals as goal

pub returns : goal.returns
unfolding local_grid focal_grid focal_numbers square disc zonal_grid zone_numbers octant floor_root form_grid linkage_at length_at partition_at frontage_at gradient_at aspect_at direction_grid direction_at winner_at flow_grid flow_at course_of downstream_of sight_grid sight_at sees spread_grid spread_net nearest_grid minimum_of region_grid region_net step_cost operate maximum_of tiles_across tiles_down tiles_in tile_top tile_left tile_of is_in_square op_damage changed_tiles op_work
returns c = record { focal_first = refl; zonal_first = refl; local_first = refl; form_first = refl; direction_first = refl; flow_first = refl; spread_first = refl; region_first = refl; stops = refl; costs_first = refl; rises = refl; falls = refl; rise_together = refl; fall_together = refl; within_twenty = refl; within_nineteen = refl; through_middle = refl; whole_region = refl; nearest_first = refl; nearest_cost = refl; nearest_tie = refl; nearest_lost = refl; split_region = refl; sight_first = refl; hidden = refl; basin_first = refl; basin_filled = refl; directions_filled = refl; one_friction = refl; one_surface = refl }
