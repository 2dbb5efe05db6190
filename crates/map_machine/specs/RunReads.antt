-- How much a run may read, of whose text so many bytes are written.
use Rattle.std.specs.Prelude.{ℕ, List, Option, Some, None, String}
use Rattle.std.specs.declared.alloc.Global.{Global}
use Rattle.map_edits.specs.Allowances.{Reads, no_reads}
use Rattle.map_machine.specs.Text.{session_lines}
use Rattle.map_machine.specs.Words.{Form, of_files, of_sample, form_of}
use Rattle.map_machine.specs.LoadTexts.{Files}
use Rattle.map_machine.specs.SampleGrids.{sample_grids}
use Rattle.map_machine.specs.SampleLines.{sample_lines}
use Rattle.map_machine.specs.Samples.{sample_state}
use Rattle.map_machine.specs.SessionReads.{lines_reads}
use Rattle.map_machine.specs.OpeningReads.{pairs_reads, grids_reads, model_reads}

abbrev pub form_reads : ℕ → ℕ → Option Form → Files → List ℕ → ℕ → Reads
form_reads most limit None files session written = no_reads
form_reads most limit (Some (of_files model ps)) files session written = pairs_reads most files ps written (λ s left. model_reads most files model s left (λ t. lines_reads t (session_lines limit session)))
form_reads most limit (Some (of_sample n)) files session written = grids_reads (sample_state n) (sample_grids n) written (λ s. lines_reads s (sample_lines n))

-- of these words, files and session bytes: what its first commands may read whose replies are whole among the bytes written, and the next one
abbrev pub run_reads : ℕ → ℕ → List (String Global) → Files → List ℕ → ℕ → Reads
run_reads most limit words files session written = form_reads most limit (form_of words) files session written
