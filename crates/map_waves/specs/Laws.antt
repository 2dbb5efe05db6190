-- Laws of plans.
use Rattle.std.specs.Prelude.{◌≡◌, ℕ, ◌<◌, List, Option, Some}
use Rattle.map_nums.specs.Grids.{Size, Cells}
use Rattle.map_defs.specs.Ops.{Name, Op}
use Rattle.layer_tiles.specs.Operands.{cells_after}
use Rattle.map_waves.specs.Keeping.{IsRightOver}
use Rattle.map_waves.specs.Plans.{Plan, change_at, operands_at}
use Rattle.map_waves.specs.Values.{operand_cells, IsPlanOf, Unfolds, AreRefsBefore}
use Rattle.map_waves.specs.Prepared.{IsPrepared}
use Rattle.map_waves.specs.Placing.{IsRightFor, IsPlaced}
use Rattle.map_waves.specs.declared.keeping.Aside.{Aside}
use Rattle.map_waves.specs.declared.keeping.Kept.{Kept}
use Rattle.map_waves.specs.declared.keeping.Made.{Made}

-- what a plan makes of a statement is the value of its name after the edit
abbrev pub PlansMakeValues : Type 0
PlansMakeValues = (p : Plan) (op_of : Name → Option Op) (value : Name → Option Cells) (name : ℕ → Name) (n : ℕ) → IsPlanOf op_of value name p n → Unfolds p.size op_of value
    → (k : ℕ) → k < n → value (name k) ≡ Some (change_at p k).cells

-- and the cells of its operands after are the values of its terms
abbrev pub OperandsAreValues : Type 0
OperandsAreValues = (p : Plan) (op_of : Name → Option Op) (value : Name → Option Cells) (name : ℕ → Name) (n : ℕ) → IsPlanOf op_of value name p n → Unfolds p.size op_of value
    → (k : ℕ) → k < n → operand_cells p.size value (p.step k).op ≡ Some (cells_after (operands_at p k))

module _ {B : Type 0} (suits : Size → Op → List Cells → Aside B → Type 0) where
  -- what is kept, and is right for the values before the edit, is right over the operands of the plan
  abbrev pub KeptWasRight : Type 0
  KeptWasRight = (p : Plan) (value : Name → Option Cells) (k : ℕ) (operands : List Cells) (own : Kept B) → AreRefsBefore p value k (p.step k).op.terms (p.step k).refs
      → operand_cells p.size value (p.step k).op ≡ Some operands → IsRightFor suits p.size (p.step k).op operands own → IsRightOver suits p.size (p.step k).op (operands_at p k) own

  -- what is in place is right for the operands after the edit
  abbrev pub PlacedIsRight : Type 0
  PlacedIsRight = (p : Plan) (k stamp : ℕ) (own : Option (Kept B)) (r : Option (Made B)) (new : Kept B) → IsPrepared suits p k own r → IsPlaced p.size own r stamp new
      → IsRightFor suits p.size (p.step k).op (cells_after (operands_at p k)) new
