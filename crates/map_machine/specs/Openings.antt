-- How the loads of a run come out.
use Rattle.std.specs.Prelude.{ℕ, List, [], ◌∷◌, length, if◌then◌else◌, nat_lt, Option, Some, None}
use Rattle.map_defs.specs.Ops.{Name}
use Rattle.map_machine.specs.States.{MapState}
use Rattle.map_machine.specs.Loads.{Opened, ready, turned_away, first_load, next_load}
use Rattle.map_machine.specs.Pairs.{Pair}
use Rattle.map_machine.specs.LoadTexts.{Files}

pub data Opening : Type 0 where
  -- no load and no line of the model file is refused
  goes_on : Opening
  -- one of them is
  turned_back : Opening
  -- nothing is held under a name that is to be fetched
  not_held : Opening

-- ---- how they come out; `next` tells it from the state after them

abbrev pub opened_opening : Opened → (MapState → Opening) → Opening
opened_opening (ready s reply) next = next s
opened_opening (turned_away reply) next = turned_back

abbrev pub file_opening : ℕ → (Name → List ℕ → Opened) → Name → Option (List ℕ) → (MapState → Opening) → Opening
file_opening most opens name None next = not_held
file_opening most opens name (Some bytes) next = if nat_lt most (length bytes) then turned_back else opened_opening (opens name bytes) next

abbrev pub further_opening : ℕ → Files → List Pair → MapState → (MapState → Opening) → Opening
further_opening most files [] s next = next s
further_opening most files (p ∷ ps) s next = file_opening most (next_load s) p.name (files p.file) (λ t. further_opening most files ps t next)

abbrev pub pairs_opening : ℕ → Files → List Pair → (MapState → Opening) → Opening
pairs_opening most files [] next = goes_on
pairs_opening most files (p ∷ ps) next = file_opening most first_load p.name (files p.file) (λ t. further_opening most files ps t next)
