-- The text of the loads that a run begins with.
use Rattle.std.specs.Prelude.{ℕ, List, [], ◌∷◌, ◌++◌, length, if◌then◌else◌, nat_lt, Option, Some, None}
use Rattle.map_defs.specs.Ops.{Name}
use Rattle.map_machine.specs.States.{MapState}
use Rattle.map_machine.specs.Loads.{Opened, ready, turned_away, first_load, next_load, long_file_reply}
use Rattle.map_machine.specs.Pairs.{Pair}

-- what a shelf holds under each name
abbrev pub Files : Type 0
Files = List ℕ → Option (List ℕ)

-- ---- the text; `next` is the text from the state after the loads

abbrev pub opened_text : Opened → (MapState → List ℕ) → List ℕ
opened_text (ready s reply) next = reply ++ next s
opened_text (turned_away reply) next = reply

-- the text from a file on: where nothing is held, the run breaks off before it
abbrev pub file_text : ℕ → (Name → List ℕ → Opened) → Name → Option (List ℕ) → (MapState → List ℕ) → List ℕ
file_text most opens name None next = []
file_text most opens name (Some bytes) next = if nat_lt most (length bytes) then long_file_reply most name else opened_text (opens name bytes) next

-- the text from further pairs on
abbrev pub further_text : ℕ → Files → List Pair → MapState → (MapState → List ℕ) → List ℕ
further_text most files [] s next = next s
further_text most files (p ∷ ps) s next = file_text most (next_load s) p.name (files p.file) (λ t. further_text most files ps t next)

abbrev pub pairs_text : ℕ → Files → List Pair → (MapState → List ℕ) → List ℕ
pairs_text most files [] next = []
pairs_text most files (p ∷ ps) next = file_text most first_load p.name (files p.file) (λ t. further_text most files ps t next)
