-- What of an earlier state is kept, so that an edit can be taken back.
use Rattle.std.specs.Prelude.{ℕ, List, ◌∷◌, take}
use Rattle.map_defs.specs.Statements.{Procedure}
use Rattle.map_edits.specs.Entries.{Entry}
use Rattle.map_edits.specs.EditForms.{Touch}
use Rattle.map_edits.specs.Edits.{with_entries}
use Rattle.map_edits.specs.Marks.{Mark}
use Rattle.map_edits.specs.WholeStates.{WholeState}

-- sources and statements, procedures, labels and symbols
pub record Parts : Type 0 where
  pub entries : List Entry
  pub procedures : List Procedure
  pub labels : List Mark
  pub symbols : List Mark

-- the parts of an earlier state, and what the edit touched that followed it
pub record Past : Type 0 where
  pub parts : Parts
  pub touch : Touch

abbrev pub parts_of : WholeState → Parts
parts_of s = record { entries = s.names.entries; procedures = s.procedures; labels = s.labels; symbols = s.symbols }

-- these parts in place of its own; one more edit is counted
abbrev pub with_parts : WholeState → Parts → WholeState
with_parts s p = record s { names = with_entries s.names p.entries; procedures = p.procedures; labels = p.labels; symbols = p.symbols }

-- so many edits can be taken back
abbrev pub most_pasts : ℕ
most_pasts = 64

-- the newest first; the oldest of one too many goes
abbrev pub with_past : WholeState → Touch → List Past → List Past
with_past s touch pasts = take most_pasts (record { parts = parts_of s; touch = touch } ∷ pasts)
