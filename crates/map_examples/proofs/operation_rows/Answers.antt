use Rattle.std.proofs.Common.{refl}
use Rattle.std.specs.Fmt.{digits}
use Rattle.map_nums.specs.Stats.{minimum_of, median_of, is_lower_median, majority_of, occurrences}
use Rattle.map_nums.specs.Tiles.{tiles_across, tiles_down, tiles_in, tile_top, tile_left, tile_of}
use Rattle.map_defs.specs.Roots.{floor_root}
use Rattle.map_defs.specs.Slopes.{octant}
use Rattle.map_defs.specs.Local.{local_grid}
use Rattle.map_defs.specs.Focal.{focal_grid, focal_numbers, square, disc}
use Rattle.map_defs.specs.Incremental.{form_grid, linkage_at, length_at, partition_at, frontage_at, gradient_at, aspect_at}
use Rattle.map_defs.specs.Zonal.{zonal_grid, zone_numbers}
use Rattle.map_defs.specs.Drainage.{direction_grid, direction_at, winner_at}
use Rattle.map_defs.specs.Flow.{flow_grid, flow_at, course_of, downstream_of}
use Rattle.map_defs.specs.Rounds.{spread_grid, spread_net, region_grid, region_net}
use Rattle.map_defs.specs.Spread.{step_cost}
use Rattle.map_defs.specs.Operate.{operate}
use Rattle.map_defs.specs.Expansion.{expansion_of}
use Rattle.map_defs.specs.Nodes.{lacks, missing}
use Rattle.map_defs.specs.Depths.{is_looped, by_depth}
use Rattle.map_defs.specs.Tiles.{is_in_square}
use Rattle.map_defs.specs.Differences.{changed_tiles}
use Rattle.map_defs.specs.Damage.{op_damage}
use Rattle.map_defs.specs.Work.{op_work}
use Rattle.map_words.specs.Names.{is_among, is_reserved, is_plain, is_dotted}
use Rattle.map_words.specs.Numbers.{number_text}
use Rattle.grammar_core.specs.Run.{run}
use Rattle.statement_parser.specs.Operations.{find_operation, operation_named}
use Rattle.statement_parser.specs.Commands.{find_command, command_named}
use Rattle.statement_parser.specs.LineOf.{line_of}
use Rattle.map_lines.specs.Present.{rows_at}
use Rattle.grid_text.specs.Contents.{grid_in}
use Rattle.grid_text.specs.Printed.{grid_text}
use Rattle.map_edits.specs.EngineStates.{value_of}
use Rattle.map_edits.specs.Faults.{fault_of}
use Rattle.map_edits.specs.Counted.{accept_counted}
use Rattle.map_edits.specs.Allowances.{edit_reads}
use Rattle.map_machine.specs.Loads.{first_load, next_load}
use Rattle.map_machine.specs.LoadReads.{first_load_reads, next_load_reads}
use Rattle.map_machine.specs.Steps.{step_of, is_quit, long_reply}
use Rattle.map_machine.specs.LineReads.{line_reads}
use Rattle.map_examples.proofs.operation_rows.Goals as goal

pub returns : goal.returns
unfolding digits minimum_of median_of is_lower_median majority_of occurrences tiles_across tiles_down tiles_in tile_top tile_left tile_of floor_root octant local_grid focal_grid focal_numbers square disc form_grid linkage_at length_at partition_at frontage_at gradient_at aspect_at zonal_grid zone_numbers direction_grid direction_at winner_at flow_grid flow_at course_of downstream_of spread_grid spread_net region_grid region_net step_cost operate expansion_of lacks missing is_looped by_depth is_in_square changed_tiles op_damage op_work is_among is_reserved is_plain is_dotted number_text run find_operation operation_named find_command command_named line_of rows_at grid_in grid_text value_of fault_of accept_counted edit_reads first_load next_load first_load_reads next_load_reads step_of is_quit long_reply line_reads
returns c = record { smallest_extent_focal_sum = (refl, refl, refl); smallest_extent_zonal_sum = (refl, refl, refl); smallest_extent_local_variety = (refl, refl, refl); smallest_extent_linkage = (refl, refl, refl); smallest_extent_length = (refl, refl, refl); smallest_extent_partition = (refl, refl, refl); smallest_extent_frontage = (refl, refl, refl); smallest_extent_gradient = (refl, refl, refl); smallest_extent_aspect = (refl, refl, refl); smallest_extent_drainage = (refl, refl, refl); smallest_extent_flow = (refl, refl, refl); smallest_extent_proximity = (refl, refl, refl); smallest_extent_insularity = (refl, refl, refl); null_gives_null_focal_sum = (refl, refl, refl); null_gives_null_linkage = (refl, refl, refl); null_gives_null_length = (refl, refl, refl); null_gives_null_partition = (refl, refl, refl); null_gives_null_frontage = (refl, refl, refl); null_gives_null_gradient = (refl, refl, refl); null_gives_null_aspect = (refl, refl, refl); forms_of_a_line = (refl, refl, refl); forms_of_a_slope = (refl, refl, refl); ties_and_floors = (refl, refl, refl) }
