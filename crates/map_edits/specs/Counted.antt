-- The state that an edit makes, stamps included, and what it counts; or why it is refused.
use Rattle.std.specs.Prelude.{Bool, false, Option, Some, None, Result, Ok, Err, if◌then◌else◌}
use Rattle.map_edits.specs.Faults.{Fault, fault_of}
use Rattle.map_edits.specs.Refusals.{Refusal, fault}
use Rattle.map_edits.specs.Edits.{may_fault}
use Rattle.map_edits.specs.WholeStates.{WholeState}
use Rattle.map_edits.specs.WholeEdits.{WholeEdit, of_names}
use Rattle.map_edits.specs.Attempts.{attempted}
use Rattle.map_edits.specs.Touches.{Touch, touch_of}
use Rattle.map_edits.specs.EditCounts.{Counts, counts_of}
use Rattle.map_edits.specs.StampsAfter.{stamped}

pub record Accepted : Type 0 where
  pub state : WholeState
  pub counts : Counts

-- the rows of drops, procedures, labels and symbols have no fault, nor has what is put back
abbrev pub has_fault_row : WholeEdit → Bool
has_fault_row (of_names edit) = may_fault edit
has_fault_row e = false

-- the fault for which an edit is refused, by the state that it would make
abbrev pub fault_after : WholeEdit → WholeState → Option Fault
fault_after e t = if has_fault_row e then fault_of t.names else None

abbrev pub done : Touch → WholeState → WholeState → Accepted
done touch s t = record { state = stamped s t; counts = counts_of touch s.names t.names }

abbrev pub unless_fault : Touch → WholeState → WholeState → Option Fault → Result Accepted Refusal
unless_fault touch s t None = Ok (done touch s t)
unless_fault touch s t (Some f) = Err (fault f)

abbrev pub of_attempt : WholeState → WholeEdit → Result WholeState Refusal → Result Accepted Refusal
of_attempt s e (Err r) = Err r
of_attempt s e (Ok t) = unless_fault (touch_of e) s t (fault_after e t)

-- a refused edit leaves the state
unfoldable pub accept_counted : WholeState → WholeEdit → Result Accepted Refusal
accept_counted s e = of_attempt s e (attempted s e)
