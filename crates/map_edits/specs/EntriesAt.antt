-- The entries with one more at a place.
use Rattle.std.specs.Prelude.{ℕ, List, ◌∷◌, ◌++◌, take, drop}
use Rattle.map_defs.specs.Ops.{Name}
use Rattle.map_edits.specs.Entries.{Def, Entry}

-- at the end, where the place is beyond it
abbrev pub entry_at : List Entry → ℕ → Name → Def → List Entry
entry_at entries k n d = take k entries ++ record { name = n; def = d } ∷ drop k entries
