-- One more edit is counted, and which edits may bring a fault.
use Rattle.std.specs.Prelude.{Bool, true, false, List}
use Rattle.map_nums.specs.Counts.{raised}
use Rattle.map_edits.specs.Entries.{Entry}
use Rattle.map_edits.specs.EngineStates.{EngineState}
use Rattle.map_edits.specs.EditForms.{Edit, drop_name}

abbrev pub with_entries : EngineState → List Entry → EngineState
with_entries s entries = record s { entries = entries; number = raised s.number 1 }

-- a drop brings no fault; after any other edit the state must have none
abbrev pub may_fault : Edit → Bool
may_fault (drop_name n) = false
may_fault edit = true
