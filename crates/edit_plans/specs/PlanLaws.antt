-- Laws of the plan that an edit makes.
use Rattle.std.specs.Prelude.{◌≡◌, ℕ, ◌<◌, List, length, Some, None, slice_get, ◌↔◌}
use Rattle.map_defs.specs.Ops.{Name}
use Rattle.map_edits.specs.LayerDefs.{nodes_of}
use Rattle.map_edits.specs.EngineStates.{EngineState, value_of}
use Rattle.map_edits.specs.Faults.{fault_of}
use Rattle.map_edits.specs.Laws.{HasNoCycle}
use Rattle.map_edits.specs.Touches.{Touch}
use Rattle.map_waves.specs.Statements.{Fault}
use Rattle.map_waves.specs.Plans.{Plan, change_at, fault_at}
use Rattle.edit_plans.specs.PlansFor.{IsPlanFor}
use Rattle.edit_plans.specs.Telling.{fault_told}

-- what a plan makes of a statement is the grid of its name
abbrev pub ValuesAreMade : Type 0
ValuesAreMade = (touch : Touch) (s t : EngineState) (p : Plan) (sources names : List Name) (k : ℕ) (n : Name) → IsPlanFor touch s t p sources names → HasNoCycle (nodes_of t.entries)
    → slice_get names k ≡ Some n → value_of t n ≡ Some (record { size = p.size; cells = (change_at p k).cells })

-- the first fault of a plan is told as the state's
abbrev pub FirstFaultIsTold : Type 0
FirstFaultIsTold = (touch : Touch) (s t : EngineState) (p : Plan) (sources names : List Name) (k : ℕ) (n : Name) (f : Fault) → IsPlanFor touch s t p sources names → HasNoCycle (nodes_of t.entries)
    → slice_get names k ≡ Some n → fault_at p k ≡ Some f → ((j : ℕ) → j < k → fault_at p j ≡ None) → fault_of t ≡ Some (fault_told t.size n f)

-- a state has no fault exactly where the plan has none
abbrev pub NoFaultIsNone : Type 0
NoFaultIsNone = (touch : Touch) (s t : EngineState) (p : Plan) (sources names : List Name) → IsPlanFor touch s t p sources names → HasNoCycle (nodes_of t.entries) → (fault_of t ≡ None) ↔ ((k : ℕ) → k < length names → fault_at p k ≡ None)
