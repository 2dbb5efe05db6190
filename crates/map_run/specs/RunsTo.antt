-- What a run came to, with its limits: the most bytes of a file, and how many bytes of a session are too many.
use Rattle.std.specs.Prelude.{ℕ, ◌≡◌, ◌↔◌, true, Option, IsNone}
use Rattle.map_machine.specs.Play.{form_text, form_opening}
use Rattle.map_machine.specs.RunReads.{form_reads}
use Rattle.map_machine.specs.Words.{Form}
use Rattle.map_outside.specs.Contents.{Grows}
use Rattle.map_run.specs.FaultCounts.{RunCounts}
use Rattle.map_run.specs.Front.{ReadsAsWritten}
use Rattle.map_run.specs.Openings.{OpensSo}
use Rattle.map_run.specs.Seen.{Seen, WhereHeld, WhereTold}
use Rattle.map_run.specs.Taken.{EndsFor}
use Rattle.map_run.specs.Written.{IsQuiet, IsWhole, FailsAfter, taken_text}
use Rattle.map_run.specs.declared.status.Status.{Status}
use Rattle.map_run.specs.declared.status.Status.TheVariants.{Usage, SourceFault}

-- the clauses of a run, whose words were of no form, or of this one
pub record RunsTo (most limit : ℕ) (form : Option Form) (old new : Seen) (status : Status) : Type 0 where
  pub usage : (status ≡ Usage) ↔ IsNone form
  pub counts : RunCounts old.shelf new.shelf old.source new.source old.progress.faults new.progress.faults status
  pub quiet : IsQuiet old.progress.held new.progress.held status
  pub reads : WhereTold form old.files old.left (λ files session. ReadsAsWritten old.progress new.progress (form_text most limit form files session) (form_reads most limit form files session))
  pub whole : IsWhole status ≡ true → WhereTold form old.files old.left (λ files session. Grows old.progress.held new.progress.held (form_text most limit form files session))
  pub source_fault : status ≡ SourceFault → WhereTold form old.files old.left (λ files session. FailsAfter (taken_text most files form) old.left new.left old.progress.held new.progress.held)
  pub opens : WhereHeld form old.files (λ files. OpensSo status (form_opening most form files))
  pub ended : EndsFor form limit old.left new.left status
