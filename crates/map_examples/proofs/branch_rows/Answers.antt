use Rattle.std.proofs.Common.{refl}
use Rattle.std.specs.Fmt.{digits}
use Rattle.map_nums.specs.Stats.{maximum_of, minimum_of}
use Rattle.map_nums.specs.Tiles.{tiles_across, tiles_down, tiles_in, tile_top, tile_left, tile_of}
use Rattle.map_defs.specs.Local.{local_grid}
use Rattle.map_defs.specs.Operate.{operate}
use Rattle.map_defs.specs.Expansion.{expansion_of}
use Rattle.map_defs.specs.Calls.{wrong_call}
use Rattle.map_defs.specs.Nodes.{lacks, missing}
use Rattle.map_defs.specs.Depths.{is_looped, by_depth}
use Rattle.map_defs.specs.Tiles.{is_in_square}
use Rattle.map_defs.specs.Differences.{changed_tiles}
use Rattle.map_defs.specs.Damage.{op_damage}
use Rattle.map_defs.specs.Work.{op_work}
use Rattle.map_words.specs.Names.{is_among, is_reserved, is_plain, is_dotted}
use Rattle.map_words.specs.Numbers.{number_text}
use Rattle.grammar_core.specs.Run.{run}
use Rattle.statement_parser.specs.BranchRules.{most_items}
use Rattle.statement_parser.specs.Operations.{find_operation, operation_named}
use Rattle.statement_parser.specs.Commands.{find_command, command_named}
use Rattle.statement_parser.specs.LineOf.{line_of}
use Rattle.map_lines.specs.Present.{rows_at}
use Rattle.grid_text.specs.Contents.{grid_in}
use Rattle.grid_text.specs.Printed.{grid_text}
use Rattle.map_edits.specs.EngineStates.{value_of}
use Rattle.map_edits.specs.Faults.{fault_of}
use Rattle.map_edits.specs.Counted.{accept_counted}
use Rattle.map_edits.specs.Allowances.{edit_reads}
use Rattle.map_machine.specs.Loads.{first_load, next_load}
use Rattle.map_machine.specs.LoadReads.{first_load_reads, next_load_reads}
use Rattle.map_machine.specs.Steps.{step_of, is_quit, long_reply}
use Rattle.map_machine.specs.LineReads.{line_reads}
use Rattle.map_examples.proofs.branch_rows.Goals as goal

pub returns : goal.returns
unfolding digits maximum_of minimum_of tiles_across tiles_down tiles_in tile_top tile_left tile_of local_grid operate expansion_of wrong_call lacks missing is_looped by_depth is_in_square changed_tiles op_damage op_work is_among is_reserved is_plain is_dotted number_text run most_items find_operation operation_named find_command command_named line_of rows_at grid_in grid_text value_of fault_of accept_counted edit_reads first_load next_load first_load_reads next_load_reads step_of is_quit long_reply line_reads
returns c = record { two_branches = (refl, refl, refl); from_one_state = (refl, refl, refl); left_alone = (refl, refl, refl); model_file = (refl, refl, refl); refused = (refl, refl, refl) }
