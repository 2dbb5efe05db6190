-- Statements in an order in which each reads sources and statements before it, and what an edit makes of each.
use Rattle.std.specs.Prelude.{ℕ, zero, suc, Bool, List, [], ◌∷◌, ◌++◌, map, length, slice_index_or, Option, None, ℤ, if◌then◌else◌}
use Rattle.map_nums.specs.Grids.{Size, Cells}
use Rattle.map_defs.specs.Ops.{Op}
use Rattle.map_defs.specs.Damage.{changed_tiles}
use Rattle.layer_tiles.specs.Changes.{ChangeState, constant_change}
use Rattle.layer_tiles.specs.Operands.{cells_after}
use Rattle.map_waves.specs.Statements.{made, damage_by, work_by, Fault, fault_in}
use Rattle.map_waves.specs.Answers.{total_of}
use Rattle.map_waves.specs.declared.plans.Ref.{Ref}
use Rattle.map_waves.specs.declared.plans.Ref.TheVariants.{Source, Statement, Number}

-- a statement: its operation and operands, its cells before, none where it was undefined, and whether the edit wrote it
pub record StepDef : Type 0 where
  pub op : Op
  pub refs : List Ref
  pub was : Option (List (Option ℤ))
  pub written : Bool

-- the sources and the statements by place
pub record Plan : Type 0 where
  pub size : Size
  pub source : ℕ → ChangeState
  pub step : ℕ → StepDef

-- what an edit makes of a statement over its operands
abbrev pub change_by : Size → StepDef → List ChangeState → ChangeState
change_by s x operands = record { size = s; before = x.was; cells = made s x.op (cells_after operands); touched = changed_tiles s x.was (made s x.op (cells_after operands)) }

-- the cells before that damage and work are reckoned from
abbrev pub reckoned : StepDef → Option Cells
reckoned x = if x.written then None else x.was

-- ---- all statements, in order

abbrev pub operand_in : Plan → List ChangeState → Ref → ChangeState
operand_in p cs (Source i) = p.source i
operand_in p cs (Statement j) = slice_index_or cs j (constant_change p.size None)
operand_in p cs (Number c) = constant_change p.size c

-- the first k statements
unfoldable pub changes_to : Plan → ℕ → List ChangeState
changes_to p zero = []
changes_to p (suc k) = changes_to p k ++ change_by p.size (p.step k) (map (operand_in p (changes_to p k)) (p.step k).refs) ∷ []

abbrev pub operands_at : Plan → ℕ → List ChangeState
operands_at p k = map (operand_in p (changes_to p k)) (p.step k).refs

abbrev pub change_at : Plan → ℕ → ChangeState
change_at p k = change_by p.size (p.step k) (operands_at p k)

abbrev pub damage_at : Plan → ℕ → List ℕ
damage_at p k = damage_by p.size (p.step k).op (reckoned (p.step k)) (operands_at p k)

abbrev pub work_at : Plan → ℕ → ℕ
work_at p k = work_by p.size (p.step k).op (reckoned (p.step k)) (operands_at p k)

abbrev pub fault_at : Plan → ℕ → Option Fault
fault_at p k = fault_in p.size (p.step k).op (cells_after (operands_at p k))

-- ---- the sums of the first k

abbrev pub changed_to : Plan → ℕ → ℕ
changed_to p k = total_of (λ i. length (change_at p i).touched) k

abbrev pub evaluated_to : Plan → ℕ → ℕ
evaluated_to p k = total_of (λ i. length (damage_at p i)) k

abbrev pub worked_to : Plan → ℕ → ℕ
worked_to p k = total_of (work_at p) k
