-- Laws of what an edit leaves alone.
use Rattle.std.specs.Prelude.{◌≡◌, Ok}
use Rattle.map_edits.specs.WholeStates.{WholeState}
use Rattle.map_edits.specs.WholeEdits.{WholeEdit}
use Rattle.map_edits.specs.Attempts.{attempted}
use Rattle.map_edits.specs.Touches.{touch_of}
use Rattle.map_edits.specs.GroupLaws.{IsLawful, IsSaid}
use Rattle.map_edits.specs.Touching.{ChangesOnly}
use Rattle.edit_plans.specs.Orderly.{IsOrderly}

-- the state that an edit would make differs in what the edit touches alone
abbrev pub OthersAreKept : Type 0
OthersAreKept = (s t : WholeState) (e : WholeEdit) → IsLawful s → IsSaid s e → attempted s e ≡ Ok t → ChangesOnly (touch_of e) s.names t.names

-- and its names stand apart, without a cycle
abbrev pub OrderIsKept : Type 0
OrderIsKept = (s t : WholeState) (e : WholeEdit) → IsLawful s → IsSaid s e → attempted s e ≡ Ok t → IsOrderly t.names
