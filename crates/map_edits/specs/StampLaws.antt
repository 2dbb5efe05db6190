-- The stamps that a state keeps.
use Rattle.std.specs.Prelude.{◌≡◌, Some, None, Ok, is_some, if◌then◌else◌}
use Rattle.map_defs.specs.Ops.{Name}
use Rattle.map_edits.specs.EngineStates.{value_of}
use Rattle.map_edits.specs.WholeStates.{WholeState, stamps_of}
use Rattle.map_edits.specs.WholeEdits.{WholeEdit}
use Rattle.map_edits.specs.StampsAfter.{stamps_at}
use Rattle.map_edits.specs.Counted.{Accepted, accept_counted}

-- a layer that is defined has its stamps, and no other has some
abbrev pub StampsAreKept : Type 0
StampsAreKept = (s : WholeState) (e : WholeEdit) (a : Accepted) (n : Name) → accept_counted s e ≡ Ok a
    → stamps_of a.state.stamps n ≡ (if is_some (value_of a.state.names n) then Some (stamps_at s a.state n) else None)
