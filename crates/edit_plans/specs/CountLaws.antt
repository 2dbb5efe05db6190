-- Laws of what an edit counts, by its plan.
use Rattle.std.specs.Prelude.{◌≡◌, List, length}
use Rattle.map_defs.specs.Ops.{Name}
use Rattle.map_edits.specs.LayerDefs.{nodes_of}
use Rattle.map_edits.specs.EngineStates.{EngineState}
use Rattle.map_edits.specs.Laws.{HasNoCycle}
use Rattle.map_edits.specs.Touches.{Touch}
use Rattle.map_edits.specs.EditCounts.{counts_of}
use Rattle.map_waves.specs.Plans.{Plan}
use Rattle.edit_plans.specs.PlansFor.{IsPlanFor}
use Rattle.map_edits.specs.Touching.{ChangesOnly}
use Rattle.edit_plans.specs.Orderly.{IsOrderly}
use Rattle.edit_plans.specs.SourceCounts.{joined, counts_of_sources, counts_of_touched, counts_to_place}

-- the sum by place is that of the sources and that of the plan
abbrev pub CountsAreSummed : Type 0
CountsAreSummed = (touch : Touch) (s t : EngineState) (p : Plan) (sources names : List Name) → IsPlanFor touch s t p sources names → ChangesOnly touch s t → HasNoCycle (nodes_of s.entries) → IsOrderly t
    → counts_of touch s t ≡ joined (counts_of_sources touch s t) (counts_to_place p (length names))

-- of the sources only the one that is touched counts
abbrev pub OneSourceCounts : Type 0
OneSourceCounts = (touch : Touch) (s t : EngineState) → ChangesOnly touch s t → HasNoCycle (nodes_of s.entries) → IsOrderly t → counts_of_sources touch s t ≡ counts_of_touched touch s t
