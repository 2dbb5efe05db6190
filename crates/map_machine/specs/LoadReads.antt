-- How much the load of a grid may read. Bytes that are no grid read nothing.
use Rattle.std.specs.Prelude.{ℕ, List, Result, Ok, Err}
use Rattle.map_nums.specs.Grids.{Grid}
use Rattle.grid_text.specs.Faults.{Fault}
use Rattle.grid_text.specs.Headed.{Headed}
use Rattle.grid_text.specs.Contents.{grid_in}
use Rattle.map_defs.specs.Ops.{Name}
use Rattle.map_edits.specs.EditForms.{load}
use Rattle.map_edits.specs.WholeEdits.{of_names}
use Rattle.map_edits.specs.Allowances.{Reads, no_reads, edit_reads}
use Rattle.map_machine.specs.States.{MapState}
use Rattle.map_machine.specs.Loads.{state_for}

abbrev pub grid_load_reads : MapState → Name → Grid → Reads
grid_load_reads s name grid = edit_reads s.whole (of_names (load name grid))

abbrev pub read_load_reads : (Headed → MapState) → Name → Result Headed Fault → Reads
read_load_reads before name (Ok read) = grid_load_reads (before read) name read.grid
read_load_reads before name (Err f) = no_reads

-- of the bytes of a file, loaded first and under this name
unfoldable pub first_load_reads : Name → List ℕ → Reads
first_load_reads name bytes = read_load_reads state_for name (grid_in bytes)

-- and loaded later
unfoldable pub next_load_reads : MapState → Name → List ℕ → Reads
next_load_reads s name bytes = read_load_reads (λ read. s) name (grid_in bytes)
