-- A statement's fault as it is told.
use Rattle.std.specs.Prelude.{suc}
use Rattle.map_nums.specs.Grids.{Size, row_of, column_of}
use Rattle.map_defs.specs.Ops.{Name}
use Rattle.map_edits.specs.Faults as told
use Rattle.map_waves.specs.Statements.{Fault, too_many, wide_at}

-- with the name of the statement, and the row and the column of the place, from 1
abbrev pub fault_told : Size → Name → Fault → told.Fault
fault_told size n (too_many count) = told.too_many_viewers n count
fault_told size n (wide_at at) = told.overflow n (suc (row_of size at)) (suc (column_of size at))
