-- What the process ends with.
use Rattle.std.specs.Prelude.{ℕ}
use Rattle.map_run.specs.declared.status.Status.{Status}
use Rattle.map_run.specs.declared.status.Status.TheVariants.{Done, Usage, Load, ShelfFault, SourceFault, SinkFault, NoMemory, TooLong}

abbrev pub code_of : Status → ℕ
code_of Done = 0
code_of Usage = 2
code_of Load = 3
code_of ShelfFault = 4
code_of SourceFault = 5
code_of SinkFault = 6
code_of NoMemory = 7
code_of TooLong = 8
