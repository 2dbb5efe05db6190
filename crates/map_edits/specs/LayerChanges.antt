-- The tiles of one layer that an edit changes and damages, and its work, by the states before and after.
use Rattle.std.specs.Prelude.{ℕ, List, [], map, Option, None, unwrap_or, if◌then◌else◌}
use Rattle.map_nums.specs.Grids.{Cells}
use Rattle.map_defs.specs.Ops.{Name, Op}
use Rattle.map_defs.specs.Differences.{changed_tiles}
use Rattle.map_defs.specs.Damage.{op_damage}
use Rattle.map_defs.specs.Work.{op_work}
use Rattle.map_edits.specs.LayerDefs.{Making, given_grid, by_op, LayerDef}
use Rattle.map_edits.specs.EngineStates.{EngineState, value_of, term_cells}
use Rattle.map_edits.specs.WholeStates.{cells_of}
use Rattle.map_edits.specs.Touches.{Touch, is_whole, source_damage}

-- the cells of a layer that is defined
abbrev pub now_of : EngineState → Name → Cells
now_of t n = unwrap_or (cells_of t n) []

-- the cells of a statement before, where they count: none where the edit wrote it, or it was undefined
abbrev pub standing : Touch → EngineState → EngineState → Name → Option Cells
standing touch s t n = if is_whole t.entries touch n then None else cells_of s n

-- the cells of each operand, in order
abbrev pub operands_in : EngineState → Op → List Cells
operands_in s op = map (λ u. unwrap_or (term_cells s.size (value_of s) u) []) op.terms

-- the tiles of a layer that changed, whoever wrote it
abbrev pub changed_of : EngineState → EngineState → Name → List ℕ
changed_of s t n = changed_tiles t.size (cells_of s n) (now_of t n)

abbrev pub damage_of : Touch → EngineState → EngineState → LayerDef → List ℕ
damage_of touch s t l = of_making l.making
  where
    of_making : Making → List ℕ
    of_making (given_grid grid) = source_damage t.size touch l.name
    of_making (by_op op) = op_damage op t.size (operands_in s op) (operands_in t op) (standing touch s t l.name) (now_of t l.name)

abbrev pub work_of : Touch → EngineState → EngineState → LayerDef → ℕ
work_of touch s t l = of_making l.making
  where
    of_making : Making → ℕ
    of_making (given_grid grid) = 0
    of_making (by_op op) = op_work op t.size (operands_in s op) (operands_in t op) (standing touch s t l.name) (now_of t l.name)
