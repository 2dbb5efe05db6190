-- What a run writes.
use Rattle.std.specs.Prelude.{ℕ, ⊤, Bool, true, false, List, [], Option, Some}
use Rattle.std.specs.Io.KnownBytes.{Consumes}
use Rattle.map_machine.specs.Lines.{ended_lines}
use Rattle.map_machine.specs.LoadTexts.{pairs_text}
use Rattle.map_machine.specs.ModelFiles.{model_text}
use Rattle.map_machine.specs.Text.{replies_to}
use Rattle.map_machine.specs.Words.{Form, of_files}
use Rattle.map_outside.specs.Contents.{Files, Grows}
use Rattle.map_run.specs.declared.status.Status.{Status}
use Rattle.map_run.specs.declared.status.Status.TheVariants.{Done, Usage, Load, TooLong}

-- where the words are of no form nothing is, whatever shelf and source tell
abbrev pub IsQuiet : Option (List ℕ) → Option (List ℕ) → Status → Type 0
IsQuiet held held' Usage = Grows held held' []
IsQuiet held held' _ = ⊤

-- at these answers all of the text is
abbrev pub IsWhole : Status → Bool
IsWhole Done = true
IsWhole Usage = true
IsWhole Load = true
IsWhole TooLong = true
IsWhole _ = false

-- the replies to the loads and the model file, and those to the lines that ended among these bytes
abbrev pub taken_text : ℕ → Files → Option Form → List ℕ → List ℕ
taken_text most files (Some (of_files model ps)) taken = pairs_text most files ps (λ s. model_text most files model s (λ t. replies_to t (ended_lines taken)))
taken_text most files form taken = []

-- some bytes were taken, and just the text that goes with them was written
pub record FailsAfter (text : List ℕ → List ℕ) (left left' held held' : Option (List ℕ)) : Type 0 where
  pub taken : List ℕ
  pub moved : Consumes left left' taken
  pub wrote : Grows held held' (text taken)
