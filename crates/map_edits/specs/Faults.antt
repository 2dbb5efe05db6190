-- The first fault of a state: a defined statement with too many viewers, or with a value that no cell may hold.
use Rattle.std.specs.Prelude.{ℕ, suc, ◌&&◌, nat_lt, List, map, position, Option, Some, None, is_some, option_map, unwrap_or, if◌then◌else◌}
use Rattle.map_nums.specs.Grids.{Size, Grid, row_of, column_of}
use Rattle.map_nums.specs.Answers.{is_wide}
use Rattle.map_nums.specs.Options.{first_some, all_some}
use Rattle.map_defs.specs.Sight.{most_viewers}
use Rattle.map_defs.specs.Ops.{Name}
use Rattle.map_defs.specs.Viewers.{viewers_in}
use Rattle.map_defs.specs.Nodes.{Node}
use Rattle.map_defs.specs.Depths.{by_depth}
use Rattle.map_edits.specs.LayerDefs.{Making, by_op, layers, find_making, nodes_of}
use Rattle.map_edits.specs.EngineStates.{EngineState, term_cells, value_of}

pub data Fault : Type 0 where
  -- a layer, and how many viewers it has
  too_many_viewers : Name → ℕ → Fault
  -- a layer, and the row and the column of its first such cell, from 1
  overflow : Name → ℕ → ℕ → Fault

-- how many viewers a layer has over its operands; none where one of them is undefined
abbrev pub viewers_of : EngineState → Option Making → ℕ
viewers_of s (Some (by_op op)) = unwrap_or (option_map (viewers_in op) (all_some (map (term_cells s.size (value_of s)) op.terms))) 0
viewers_of s making = 0

abbrev pub wide_place : Option Grid → Option ℕ
wide_place None = None
wide_place (Some grid) = position is_wide grid.cells

abbrev pub overflow_at : Size → Name → Option ℕ → Option Fault
overflow_at size n None = None
overflow_at size n (Some place) = Some (overflow n (suc (row_of size place)) (suc (column_of size place)))

-- the fault of a layer: viewers come before a value out of range
abbrev pub fault_of_layer : EngineState → Name → Option Fault
fault_of_layer s n =
    if nat_lt most_viewers (viewers_of s (find_making (layers s.entries) n)) && is_some (value_of s n) then Some (too_many_viewers n (viewers_of s (find_making (layers s.entries) n)))
    else overflow_at s.size n (wide_place (value_of s n))

-- the first by depth, then place
unfoldable pub fault_of : EngineState → Option Fault
fault_of s = first_some (map (λ (node : Node). fault_of_layer s node.name) (by_depth (nodes_of s.entries)))
