-- One statement over its operands: its cells, damage, work and fault.
use Rattle.std.specs.Prelude.{ℕ, nat_lt, List, map, Option, Some, option_map, if◌then◌else◌}
use Rattle.std.specs.List.{position}
use Rattle.map_nums.specs.Grids.{Size, Cells}
use Rattle.map_nums.specs.Answers.{is_wide}
use Rattle.map_defs.specs.Ops.{Op}
use Rattle.map_defs.specs.Operate.{operate}
use Rattle.map_defs.specs.Sight.{most_viewers}
use Rattle.map_defs.specs.Viewers.{viewers_in}
use Rattle.map_defs.specs.Damage.{op_damage}
use Rattle.map_defs.specs.Work.{op_work}
use Rattle.layer_tiles.specs.Changes.{ChangeState, cells_before}
use Rattle.layer_tiles.specs.Operands.{cells_after}

-- the operands' cells before the edit
abbrev pub cells_were : List ChangeState → List Cells
cells_were operands = map cells_before operands

-- the cells of an operation
abbrev pub made : Size → Op → List Cells → Cells
made s op operands = (operate s op operands).cells

-- the tiles that an edit damages; `was` is none where it wrote the statement, or that was undefined
abbrev pub damage_by : Size → Op → Option Cells → List ChangeState → List ℕ
damage_by s op was operands = op_damage op s (cells_were operands) (cells_after operands) was (made s op (cells_after operands))

abbrev pub work_by : Size → Op → Option Cells → List ChangeState → ℕ
work_by s op was operands = op_work op s (cells_were operands) (cells_after operands) was (made s op (cells_after operands))

-- why a statement has no layer: so many viewers, or a cell out of range
pub data Fault : Type 0 where
  too_many : ℕ → Fault
  wide_at : ℕ → Fault

-- viewers come before a value out of range
unfoldable pub fault_in : Size → Op → List Cells → Option Fault
fault_in s op operands = if nat_lt most_viewers (viewers_in op operands) then Some (too_many (viewers_in op operands)) else option_map (λ at. wide_at at) (position is_wide (made s op operands))
