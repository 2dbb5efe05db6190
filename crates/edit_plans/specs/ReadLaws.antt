-- Laws of what an edit may read, by its plan.
use Rattle.std.specs.Prelude.{◌≡◌, ℕ, ◌<◌, ◌≤◌, List, length, Some, Ok, slice_get}
use Rattle.map_defs.specs.Ops.{Name}
use Rattle.map_defs.specs.Depths.{depth_in}
use Rattle.map_edits.specs.LayerDefs.{nodes_of}
use Rattle.map_edits.specs.Faults.{Fault}
use Rattle.map_edits.specs.WholeStates.{WholeState}
use Rattle.map_edits.specs.WholeEdits.{WholeEdit}
use Rattle.map_edits.specs.Attempts.{attempted}
use Rattle.map_edits.specs.Touches.{touch_of}
use Rattle.map_edits.specs.Counted.{fault_after}
use Rattle.map_edits.specs.Allowances.{reads_for, faulty_name, edit_reads}
use Rattle.map_edits.specs.CountLaws.{IsWithin}
use Rattle.map_edits.specs.Laws.{HasNoCycle}
use Rattle.map_waves.specs.Plans.{Plan}
use Rattle.edit_plans.specs.PlansFor.{IsPlanFor}
use Rattle.map_edits.specs.Touching.{ChangesOnly}
use Rattle.edit_plans.specs.Orderly.{IsOrderly}
use Rattle.edit_plans.specs.SourceCounts.{joined, counts_of_sources, counts_to_place}

-- the statements before a place are no deeper than a fault is, where the edit has one
abbrev pub AreReached : WholeState → WholeEdit → List Name → ℕ → Type 0
AreReached t e names end = (f : Fault) → fault_after e t ≡ Some f → (j : ℕ) (m : Name) → j < end → slice_get names j ≡ Some m → depth_in (nodes_of t.names.entries) m ≤ depth_in (nodes_of t.names.entries) (faulty_name f)

-- what the sources and such statements count may be read, whether the edit is accepted or refused
abbrev pub ReadsAreAllowed : Type 0
ReadsAreAllowed = (s t : WholeState) (e : WholeEdit) (p : Plan) (sources names : List Name) (end : ℕ) → attempted s e ≡ Ok t → IsPlanFor (touch_of e) s.names t.names p sources names → ChangesOnly (touch_of e) s.names t.names
    → HasNoCycle (nodes_of s.names.entries) → IsOrderly t.names → end ≤ length names → AreReached t e names end
    → IsWithin (reads_for (joined (counts_of_sources (touch_of e) s.names t.names) (counts_to_place p end))) (edit_reads s e)
