-- What a run over the sample came to.
use Rattle.std.specs.Prelude.{ℕ, ◌≡◌, true, List}
use Rattle.map_edits.specs.Allowances.{Reads}
use Rattle.map_machine.specs.Text.{replies_to}
use Rattle.map_machine.specs.SampleGrids.{sample_grids}
use Rattle.map_machine.specs.SampleLines.{sample_lines}
use Rattle.map_machine.specs.Samples.{sample_state, grids_text}
use Rattle.map_machine.specs.SessionReads.{lines_reads}
use Rattle.map_machine.specs.OpeningReads.{grids_reads}
use Rattle.map_outside.specs.Contents.{Grows}
use Rattle.map_run.specs.Front.{ReadsAsWritten}
use Rattle.map_run.specs.Progress.{Progress}
use Rattle.map_run.specs.Taken.{EndsSample}
use Rattle.map_run.specs.Written.{IsWhole}
use Rattle.map_run.specs.declared.status.Status.{Status}

abbrev pub sample_text : ℕ → List ℕ
sample_text n = grids_text (sample_state n) (sample_grids n) (λ s. replies_to s (sample_lines n))

abbrev pub sample_reads : ℕ → ℕ → Reads
sample_reads n written = grids_reads (sample_state n) (sample_grids n) written (λ s. lines_reads s (sample_lines n))

-- how it ended, and what was written and read
pub record Sampled (n : ℕ) (a b : Progress) (status : Status) : Type 0 where
  pub ends : EndsSample status
  pub reads : ReadsAsWritten a b (sample_text n) (sample_reads n)
  pub whole : IsWhole status ≡ true → Grows a.held b.held (sample_text n)
