-- Sessions of edits, as plain data: what each is answered, and the state after them.
use Rattle.std.specs.Prelude.{ℕ, List, [], ◌∷◌, Result, Ok, Err}
use Rattle.map_edits.specs.Refusals.{Refusal}
use Rattle.map_edits.specs.WholeStates.{WholeState, no_names}
use Rattle.map_edits.specs.WholeEdits.{WholeEdit}
use Rattle.map_edits.specs.Counted.{Accepted, accept_counted}
use Rattle.map_edits.specs.SessionWords.{cell}

pub data Answer : Type 0 where
  -- the number, tiles that changed, tiles that were evaluated, work
  ok : ℕ → ℕ → ℕ → ℕ → Answer
  refused : Refusal → Answer

abbrev pub answers : WholeState → List WholeEdit → List Answer
answers s [] = []
answers s (e ∷ es) = go (accept_counted s e) (λ t. answers t es)
  where
    go : Result Accepted Refusal → (WholeState → List Answer) → List Answer
    go (Ok a) next = ok a.state.names.number a.counts.changed a.counts.evaluated a.counts.worked ∷ next a.state
    go (Err r) next = refused r ∷ next s

abbrev pub state_after : WholeState → List WholeEdit → WholeState
state_after s [] = s
state_after s (e ∷ es) = go (accept_counted s e) (λ t. state_after t es)
  where
    go : Result Accepted Refusal → (WholeState → WholeState) → WholeState
    go (Ok a) next = next a.state
    go (Err r) next = next s

-- from a map of one cell without names
abbrev pub played : List WholeEdit → List Answer
played es = answers (no_names cell) es

abbrev pub after : List WholeEdit → WholeState
after es = state_after (no_names cell) es
