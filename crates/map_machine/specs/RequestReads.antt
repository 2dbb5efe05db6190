-- How much the answer to a request may read.
use Rattle.std.specs.Prelude.{◌+◌, ◌*◌, ◌&&◌, List, [], ◌∷◌, is_some, if◌then◌else◌}
use Rattle.map_nums.specs.Tiles.{tiles_in}
use Rattle.map_defs.specs.Ops.{Name}
use Rattle.statement_parser.specs.Lines.{Item, make, look_at, Request, ask_value, ask_grid, ask_show, ask_legend, ask_table, ask_stamps, ask_list, ask_branches}
use Rattle.map_edits.specs.Allowances.{Reads, no_reads, together, edit_reads}
use Rattle.map_edits.specs.EngineStates.{EngineState, value_of}
use Rattle.map_edits.specs.LineEdits.{line_edit}
use Rattle.map_edits.specs.WholeStates.{WholeState}
use Rattle.map_machine.specs.Branches.{after_item}

-- 64 looks for each tile
abbrev pub layer_reads : EngineState → Name → Reads
layer_reads s n = if is_some (value_of s n) then record { looks = 64 * tiles_in s.size; picks = 0 } else no_reads

-- of the cell in a row and a column
abbrev pub look_reads : EngineState → Name → Reads
look_reads s n = if is_some (value_of s n) then record { looks = 1; picks = 1 } else no_reads

-- ---- branches

abbrev pub item_reads : WholeState → Item → Reads
item_reads s (make e) = edit_reads s (line_edit e)
item_reads s (look_at n r c) = look_reads s.names n

-- of the items of one branch, each in the state that those before it made
abbrev pub items_reads : WholeState → List Item → Reads
items_reads s [] = no_reads
items_reads s (i ∷ is) = together (item_reads s i) (items_reads (after_item s i) is)

abbrev pub branches_reads : WholeState → List (List Item) → Reads
branches_reads s [] = no_reads
branches_reads s (b ∷ bs) = together (items_reads s b) (branches_reads s bs)

-- ---- requests

abbrev pub request_reads : WholeState → Request → Reads
request_reads s (ask_value n r c) = look_reads s.names n
request_reads s (ask_grid n) = layer_reads s.names n
request_reads s (ask_show n) = layer_reads s.names n
request_reads s (ask_legend n) = layer_reads s.names n
request_reads s (ask_table n m) = if is_some (value_of s.names n) && is_some (value_of s.names m) then record { looks = 64 * (tiles_in s.names.size + tiles_in s.names.size); picks = 0 } else no_reads
request_reads s (ask_stamps n) = no_reads
request_reads s ask_list = no_reads
request_reads s (ask_branches bs) = branches_reads s bs
