-- What taking edits back does, over many of them.
use Rattle.std.specs.Prelude.{◌≡◌, ℕ, zero, suc, ◌≤◌, ◌-◌, List, [], ◌∷◌, length, take, Ok}
use Rattle.map_edits.specs.Counted.{Accepted, accept_counted}
use Rattle.map_edits.specs.Pasts.{most_pasts, parts_of}
use Rattle.map_edits.specs.WholeEdits.{WholeEdit}
use Rattle.map_machine.specs.States.{MapState}
use Rattle.map_machine.specs.Steps.{edited, undone}

-- these edits of lines, each of which is accepted, lead from one state to the other
abbrev pub LeadTo : MapState → List WholeEdit → MapState → Type 0
LeadTo s [] t = t ≡ s
LeadTo s (e ∷ es) t = (a : Accepted) × (accept_counted s.whole e ≡ Ok a) × LeadTo (edited s e (Ok a)).state es t

-- the state after so many undos
abbrev pub after_undos : ℕ → MapState → MapState
after_undos zero s = s
after_undos (suc k) s = after_undos k (undone s s.pasts).state

-- so many undos lead back to the sources, statements, procedures, labels and symbols that there were, and to what could be taken back then, as far as there was room
pub record LeadsBack (s t : MapState) (count : ℕ) : Type 0 where
  pub parts : parts_of (after_undos count t).whole ≡ parts_of s.whole
  pub pasts : (after_undos count t).pasts ≡ take (most_pasts - count) s.pasts

-- as many undos as there were edits, at most 64, lead back
abbrev pub UndosLeadBack : Type 0
UndosLeadBack = (s t : MapState) (es : List WholeEdit) → length s.pasts ≤ most_pasts → length es ≤ most_pasts → LeadTo s es t → LeadsBack s t (length es)
