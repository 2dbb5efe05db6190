use Rattle.std.proofs.Common.{refl}
use Rattle.map_nums.specs.Tiles.{tiles_across, tiles_down, tiles_in, tile_top, tile_left, tile_of}
use Rattle.map_nums.specs.Stats.{maximum_of}
use Rattle.map_defs.specs.Local.{local_grid}
use Rattle.map_defs.specs.Operate.{operate}
use Rattle.map_defs.specs.Expansion.{expansion_of}
use Rattle.map_defs.specs.Calls.{wrong_call}
use Rattle.map_defs.specs.Depths.{is_looped, by_depth}
use Rattle.map_defs.specs.Tiles.{is_in_square}
use Rattle.map_defs.specs.Differences.{changed_tiles}
use Rattle.map_defs.specs.Damage.{op_damage}
use Rattle.map_defs.specs.Work.{op_work}
use Rattle.map_edits.specs.EngineStates.{value_of}
use Rattle.map_edits.specs.Faults.{fault_of}
use Rattle.map_edits.specs.Counted.{accept_counted}
use Rattle.map_edits.specs.Allowances.{edit_reads}
use Rattle.map_edits.proofs.worked_sessions.Goals as goal

pub returns : goal.returns
unfolding tiles_across tiles_down tiles_in tile_top tile_left tile_of maximum_of local_grid operate expansion_of wrong_call is_looped by_depth is_in_square changed_tiles op_damage op_work value_of fault_of accept_counted edit_reads
returns c = record { cycles = refl; before_operand = refl; refusals = refl; repainted = refl; overflows = refl; stops = refl; stamp_moves = refl; stamp_stays = refl; late = refl; by_depth = refl; calls = refl; inner = refl; result = refl; wrong_calls = refl; marks = refl; paint_reads = refl; refused_reads = refl; late_reads = refl; no_reads = refl }
