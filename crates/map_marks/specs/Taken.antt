-- Marks that were taken out, each with its place.
use Rattle.std.specs.Prelude.{ℕ, List, [], ◌∷◌, ◌++◌, take, drop}
use Rattle.map_edits.specs.Marks.{Mark as Kept}
use Rattle.map_marks.specs.declared.taken.Taken.{Taken}
use Rattle.map_marks.specs.Views.{mark_of}

-- a mark put in at a place, or after all where there are fewer
abbrev pub mark_at : List Kept → ℕ → Kept → List Kept
mark_at marks k m = take k marks ++ m ∷ drop k marks

-- marks that were taken out one after another are put back, the last first
abbrev pub given_back : List Kept → List Taken → List Kept
given_back marks [] = marks
given_back marks (t ∷ ts) = mark_at (given_back marks ts) t.place (mark_of t.mark)
