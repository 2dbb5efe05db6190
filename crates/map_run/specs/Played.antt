-- What a session came to, by the bytes that were taken.
use Rattle.std.specs.Prelude.{ℕ, ◌≡◌, ◌≤◌, ◌<◌, ◌⊎◌, Bool, true, false, List, length, Option, if◌then◌else◌}
use Rattle.std.specs.List.{list_any}
use Rattle.std.specs.Io.KnownBytes.{Consumes, IsAtEnd}
use Rattle.map_machine.specs.Lines.{ended_lines, lines_of}
use Rattle.map_machine.specs.States.{MapState}
use Rattle.map_machine.specs.Steps.{is_quit}
use Rattle.map_run.specs.Progress.{Progress}
use Rattle.map_run.specs.Answered.{AnswersWhole, StoppedAt}
use Rattle.map_run.specs.declared.status.Status.{Status}
use Rattle.map_run.specs.declared.status.Status.TheVariants.{Done, SourceFault, SinkFault, NoMemory, TooLong}

-- the lines of the bytes that were taken: what goes past the last line feed counts once the end was seen
abbrev pub lines_taken : List ℕ → Bool → List (List ℕ)
lines_taken taken ended = if ended then lines_of taken else ended_lines taken

-- of the bytes that were taken no line ends the session
abbrev pub GoesOn : List ℕ → Type 0
GoesOn taken = list_any is_quit (ended_lines taken) ≡ false

-- how it ended, and what was written and read
abbrev pub CameTo : ℕ → MapState → List ℕ → Bool → Progress → Progress → Status → Type 0
CameTo limit old taken ended a b Done = ((ended ≡ true) ⊎ (list_any is_quit (ended_lines taken) ≡ true)) × AnswersWhole old (lines_taken taken ended) a b
CameTo limit old taken ended a b SourceFault = (ended ≡ false) × (length taken < limit) × GoesOn taken × AnswersWhole old (ended_lines taken) a b
CameTo limit old taken ended a b TooLong = (ended ≡ false) × (length taken ≡ limit) × GoesOn taken × AnswersWhole old (ended_lines taken) a b
CameTo limit old taken ended a b SinkFault = StoppedAt old (lines_taken taken ended) a b
CameTo limit old taken ended a b NoMemory = StoppedAt old (lines_taken taken ended) a b
CameTo limit old taken ended a b _ = ⊥

pub record Plays (limit : ℕ) (old : MapState) (left left' : Option (List ℕ)) (a b : Progress) (status : Status) : Type 0 where
  pub taken : List ℕ
  pub ended : Bool
  pub within : length taken ≤ limit
  pub moved : Consumes left left' taken
  pub at_end : ended ≡ true → IsAtEnd left' × (length taken < limit)
  pub came : CameTo limit old taken ended a b status
