-- Laws of what is kept of statements before an edit.
use Rattle.std.specs.Prelude.{◌≡◌, false, List, Some, None, slice_get, ℕ}
use Rattle.map_nums.specs.Grids.{Size, Cells}
use Rattle.map_defs.specs.Ops.{Name, Op}
use Rattle.map_edits.specs.LayerDefs.{nodes_of}
use Rattle.map_edits.specs.EngineStates.{EngineState}
use Rattle.map_edits.specs.Faults.{fault_of}
use Rattle.map_edits.specs.Touches.{Touch}
use Rattle.map_edits.specs.LayerChanges.{operands_in}
use Rattle.map_edits.specs.Laws.{HasNoCycle}
use Rattle.map_waves.specs.Keeping.{IsRightOver}
use Rattle.map_waves.specs.Plans.{Plan, operands_at}
use Rattle.map_waves.specs.declared.keeping.Aside.{Aside}
use Rattle.map_waves.specs.declared.keeping.Kept.{Kept}
use Rattle.edit_plans.specs.PlansFor.{IsPlanFor}
use Rattle.map_edits.specs.Touching.{ChangesOnly}

-- what is kept of a statement that the edit didn't write, of a state without a fault, is right for its operands before
abbrev pub KeptIsRight : {B : Type 0} → (Size → Op → List Cells → Aside B → Type 0) → Type 0
KeptIsRight {B} suits = (touch : Touch) (s t : EngineState) (p : Plan) (sources names : List Name) (k : ℕ) (n : Name) (own : Kept B) → IsPlanFor touch s t p sources names → ChangesOnly touch s t → HasNoCycle (nodes_of s.entries)
    → fault_of s ≡ None → slice_get names k ≡ Some n → (p.step k).written ≡ false → (p.step k).was ≡ Some own.layer.cells → own.layer.size ≡ s.size → suits s.size (p.step k).op (operands_in s (p.step k).op) own.beside
    → IsRightOver suits p.size (p.step k).op (operands_at p k) own
