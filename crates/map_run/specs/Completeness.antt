-- When a run without faults comes to its end.
use Rattle.std.specs.Prelude.{ℕ, ◌≡◌, ◌≤◌, ◌<◌, ◌⊎◌, ⊤, true, false, List, length, take, Option, Some}
use Rattle.std.specs.List.{list_any}
use Rattle.map_machine.specs.Lines.{ended_lines}
use Rattle.map_machine.specs.Steps.{is_quit}
use Rattle.map_machine.specs.Words.{Form, of_files}
use Rattle.map_run.specs.declared.status.Status.{Status}
use Rattle.map_run.specs.declared.status.Status.TheVariants.{Done, NoMemory, TooLong}

-- the session is shorter than the limit, or one of the lines that end before the limit ends it
abbrev pub ComesToEnd : ℕ → List ℕ → Type 0
ComesToEnd limit session = (length session < limit) ⊎ (list_any is_quit (ended_lines (take limit session)) ≡ true)

-- the session has the limit or more, and none of the lines that end before the limit ends it
abbrev pub ComesToLimit : ℕ → List ℕ → Type 0
ComesToLimit limit session = (limit ≤ length session) × (list_any is_quit (ended_lines (take limit session)) ≡ false)

-- a run over files, which has a session
abbrev pub HasSession : Option Form → Type 0
HasSession (Some (of_files model ps)) = ⊤
HasSession form = ⊥

-- it is done, or memory was wanted
abbrev pub IsComplete : Status → Type 0
IsComplete Done = ⊤
IsComplete NoMemory = ⊤
IsComplete _ = ⊥

-- it is too long, or memory was wanted
abbrev pub IsTooLong : Status → Type 0
IsTooLong TooLong = ⊤
IsTooLong NoMemory = ⊤
IsTooLong _ = ⊥
