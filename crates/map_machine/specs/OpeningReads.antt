-- How much the loads of a run and its model file may read, of whose text so many bytes are written; `next` tells the rest from the state after them, by the bytes left.
use Rattle.std.specs.Prelude.{ℕ, nat_lt, List, [], ◌∷◌, length, Option, Some, None, if◌then◌else◌}
use Rattle.map_defs.specs.Ops.{Name}
use Rattle.map_edits.specs.Allowances.{Reads, no_reads}
use Rattle.map_machine.specs.States.{MapState}
use Rattle.map_machine.specs.Steps.{is_quit}
use Rattle.map_machine.specs.Lines.{lines_of}
use Rattle.map_machine.specs.Text.{reply_to, state_to, kind_to}
use Rattle.map_machine.specs.Pairs.{Pair}
use Rattle.map_machine.specs.Loads.{Opened, ready, turned_away, grid_load, first_load, next_load}
use Rattle.map_machine.specs.LoadTexts.{Files}
use Rattle.map_machine.specs.ModelFiles.{is_refused}
use Rattle.map_machine.specs.SampleGrids.{NamedGrid}
use Rattle.map_machine.specs.LineReads.{line_reads}
use Rattle.map_machine.specs.LoadReads.{grid_load_reads, first_load_reads, next_load_reads}
use Rattle.map_machine.specs.SessionReads.{and_then}

abbrev pub opened_reads : Reads → Opened → ℕ → (MapState → ℕ → Reads) → Reads
opened_reads reads (ready s reply) written next = and_then reads reply written (next s)
opened_reads reads (turned_away reply) written next = reads

-- a file that isn't held, or is too long, reads nothing
abbrev pub file_reads : ℕ → (Name → List ℕ → Opened) → (Name → List ℕ → Reads) → Name → Option (List ℕ) → ℕ → (MapState → ℕ → Reads) → Reads
file_reads most opens reads name None written next = no_reads
file_reads most opens reads name (Some bytes) written next = if nat_lt most (length bytes) then no_reads else opened_reads (reads name bytes) (opens name bytes) written next

abbrev pub further_reads : ℕ → Files → List Pair → MapState → ℕ → (MapState → ℕ → Reads) → Reads
further_reads most files [] s written next = next s written
further_reads most files (p ∷ ps) s written next = file_reads most (next_load s) (next_load_reads s) p.name (files p.file) written (λ t left. further_reads most files ps t left next)

abbrev pub pairs_reads : ℕ → Files → List Pair → ℕ → (MapState → ℕ → Reads) → Reads
pairs_reads most files [] written next = no_reads
pairs_reads most files (p ∷ ps) written next = file_reads most first_load first_load_reads p.name (files p.file) written (λ t left. further_reads most files ps t left next)

-- of the sample's grids
abbrev pub grids_reads : MapState → List NamedGrid → ℕ → (MapState → ℕ → Reads) → Reads
grids_reads s [] written next = next s written
grids_reads s (g ∷ gs) written next = opened_reads (grid_load_reads s g.name g.grid) (grid_load s g.name g.grid) written (λ t left. grids_reads t gs left next)

abbrev pub model_lines_reads : MapState → List (List ℕ) → ℕ → (MapState → ℕ → Reads) → Reads
model_lines_reads s [] written next = next s written
model_lines_reads s (line ∷ lines) written next =
    if is_quit line then next s written
    else and_then (line_reads s line) (reply_to s line) written (λ left. if is_refused (kind_to s line) then no_reads else model_lines_reads (state_to s line) lines left next)

abbrev pub model_file_reads : ℕ → Option (List ℕ) → MapState → ℕ → (MapState → ℕ → Reads) → Reads
model_file_reads most None s written next = no_reads
model_file_reads most (Some bytes) s written next = if nat_lt most (length bytes) then no_reads else model_lines_reads s (lines_of bytes) written next

abbrev pub model_reads : ℕ → Files → Option (List ℕ) → MapState → ℕ → (MapState → ℕ → Reads) → Reads
model_reads most files None s written next = next s written
model_reads most files (Some file) s written next = model_file_reads most (files file) s written next
