-- Why the statements are not repaired.
use Rattle.std.specs.Prelude.{◌≡◌, Some}
use Rattle.map_edits.specs.WholeStates.{WholeState}
use Rattle.map_edits.specs.WholeEdits.{WholeEdit}
use Rattle.map_edits.specs.Faults.{too_many_viewers, overflow}
use Rattle.map_edits.specs.Counted.{fault_after}
use Rattle.kept_map.specs.declared.halts.Halt.{Halt}
use Rattle.kept_map.specs.declared.halts.Halt.TheVariants.{Viewers, Overflow, NoMemory}

-- the first statement with a fault; want of memory is free
abbrev pub IsHaltOf : WholeEdit → WholeState → Halt → Type 0
IsHaltOf e t (Viewers n count) = fault_after e t ≡ Some (too_many_viewers n count)
IsHaltOf e t (Overflow n row column) = fault_after e t ≡ Some (overflow n row column)
IsHaltOf e t NoMemory = Unit {0}
