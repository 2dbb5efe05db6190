-- How the bytes that a run took and its answer go together.
use Rattle.std.specs.Prelude.{ℕ, ◌≡◌, ◌≤◌, ◌<◌, ◌⊎◌, ⊤, true, false, List, length, Option, Some}
use Rattle.std.specs.List.{list_any}
use Rattle.std.specs.Io.KnownBytes.{Consumes, IsAtEnd, Keeps}
use Rattle.map_machine.specs.Lines.{ended_lines}
use Rattle.map_machine.specs.Steps.{is_quit}
use Rattle.map_machine.specs.Words.{Form, of_sample}
use Rattle.map_run.specs.declared.status.Status.{Status}
use Rattle.map_run.specs.declared.status.Status.TheVariants.{Done, Usage, Load, ShelfFault, SourceFault, SinkFault, NoMemory, TooLong}

-- done: no more than the limit was taken, and a line ended the session, or the end was seen before the limit
pub record EndsDone (limit : ℕ) (left left' : Option (List ℕ)) : Type 0 where
  pub taken : List ℕ
  pub moved : Consumes left left' taken
  pub within : length taken ≤ limit
  pub why : (list_any is_quit (ended_lines taken) ≡ true) ⊎ (IsAtEnd left' × (length taken < limit))

-- a fault of the source: less than the limit was taken, and no line ended the session
pub record EndsFaulty (limit : ℕ) (left left' : Option (List ℕ)) : Type 0 where
  pub taken : List ℕ
  pub moved : Consumes left left' taken
  pub few : length taken < limit
  pub none : list_any is_quit (ended_lines taken) ≡ false

-- too long: the limit was taken, and no line ended the session
pub record EndsTooLong (limit : ℕ) (left left' : Option (List ℕ)) : Type 0 where
  pub taken : List ℕ
  pub moved : Consumes left left' taken
  pub full : length taken ≡ limit
  pub none : list_any is_quit (ended_lines taken) ≡ false

-- some bytes were taken, at most the limit
pub record EndsWithin (limit : ℕ) (left left' : Option (List ℕ)) : Type 0 where
  pub taken : List ℕ
  pub moved : Consumes left left' taken
  pub within : length taken ≤ limit

abbrev pub EndsSo : ℕ → Option (List ℕ) → Option (List ℕ) → Status → Type 0
EndsSo limit left left' Done = EndsDone limit left left'
EndsSo limit left left' SourceFault = EndsFaulty limit left left'
EndsSo limit left left' TooLong = EndsTooLong limit left left'
EndsSo limit left left' SinkFault = EndsWithin limit left left'
EndsSo limit left left' NoMemory = EndsWithin limit left left'
EndsSo limit left left' Usage = Keeps left left'
EndsSo limit left left' Load = Keeps left left'
EndsSo limit left left' ShelfFault = Keeps left left'

-- a sample is done, or the sink failed, or memory was wanted
abbrev pub EndsSample : Status → Type 0
EndsSample Done = ⊤
EndsSample SinkFault = ⊤
EndsSample NoMemory = ⊤
EndsSample _ = ⊥

-- a sample takes nothing
abbrev pub EndsFor : Option Form → ℕ → Option (List ℕ) → Option (List ℕ) → Status → Type 0
EndsFor (Some (of_sample n)) limit left left' status = Keeps left left' × EndsSample status
EndsFor form limit left left' status = EndsSo limit left left' status
