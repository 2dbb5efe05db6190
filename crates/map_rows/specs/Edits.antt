-- A statement before and after an edit, with its counts.
use Rattle.std.specs.Prelude.{ℕ, List, length, Option, Some, None}
use Rattle.map_nums.specs.Grids.{Size, Cells}
use Rattle.map_defs.specs.Ops.{Op}
use Rattle.map_defs.specs.Operate.{operate}
use Rattle.map_defs.specs.Damage.{op_damage, changed_tiles}
use Rattle.map_defs.specs.Work.{op_work}

-- tiles changed, tiles damaged, and work
pub record Counts : Type 0 where
  pub changed : ℕ
  pub evaluated : ℕ
  pub worked : ℕ

abbrev pub counts : ℕ → ℕ → ℕ → Counts
counts c e w = record { changed = c; evaluated = e; worked = w }

abbrev pub counted : Op → Size → List Cells → List Cells → Option Cells → Cells → Counts
counted op s before after was now = record {
  changed = length (changed_tiles s was now);
  evaluated = length (op_damage op s before after was now);
  worked = op_work op s before after was now;
}

-- a statement that is new
abbrev pub at_first : Op → Size → List Cells → Counts
at_first op s operands = counted op s operands operands None (operate s op operands).cells

-- a statement that stood before
abbrev pub at_change : Op → Size → List Cells → List Cells → Counts
at_change op s before after = counted op s before after (Some (operate s op before).cells) (operate s op after).cells
