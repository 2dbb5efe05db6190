-- How many viewers an operation has over its operands.
use Rattle.std.specs.Prelude.{ℕ, List}
use Rattle.map_nums.specs.Grids.{Cells}
use Rattle.map_defs.specs.Sight.{viewer_count}
use Rattle.map_defs.specs.Operate.{operand}
use Rattle.map_defs.specs.Ops.{Op}
use Rattle.map_defs.specs.Facts.{Class, sight_class, class_of}

-- none but the sums of sight have some
abbrev pub viewers_by : Class → List Cells → ℕ
viewers_by (sight_class reach) operands = viewer_count (operand operands 0)
viewers_by class operands = 0

abbrev pub viewers_in : Op → List Cells → ℕ
viewers_in op = viewers_by (class_of op)
