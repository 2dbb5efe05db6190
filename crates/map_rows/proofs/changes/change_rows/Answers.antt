use Rattle.std.proofs.Common.{refl}
use Rattle.map_nums.specs.Stats.{minimum_of}
use Rattle.map_nums.specs.Tiles.{tiles_across, tiles_down, tiles_in, tile_top, tile_left, tile_of}
use Rattle.map_defs.specs.Drainage.{direction_at, winner_at}
use Rattle.map_defs.specs.Flow.{flow_grid, flow_at, course_of, downstream_of}
use Rattle.map_defs.specs.Sight.{sight_grid, sight_at, sees}
use Rattle.map_defs.specs.Rounds.{spread_grid, spread_net, region_grid, region_net}
use Rattle.map_defs.specs.Spread.{step_cost}
use Rattle.map_defs.specs.Operate.{operate}
use Rattle.map_defs.specs.Tiles.{is_in_square}
use Rattle.map_defs.specs.Damage.{op_damage, changed_tiles}
use Rattle.map_defs.specs.Work.{op_work}
use Rattle.map_rows.proofs.changes.change_rows.Goals as goal

pub returns : goal.returns
unfolding minimum_of tiles_across tiles_down tiles_in tile_top tile_left tile_of direction_at winner_at flow_grid flow_at course_of downstream_of sight_grid sight_at sees spread_grid spread_net region_grid region_net step_cost operate is_in_square op_damage changed_tiles op_work
returns c = record { both_change = refl; region_moves = refl; viewer_goes = refl; near_surface = refl; far_surface = refl; blind_viewer_goes = refl; weight_changes = refl }
