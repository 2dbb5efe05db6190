-- Every accepted edit keeps the limits.
use Rattle.std.specs.Prelude.{◌≡◌, ◌≤◌, count_by, length, Ok, ⊤}
use Rattle.map_edits.specs.LayerDefs.{layers}
use Rattle.map_edits.specs.Limits.{most_sources, is_source, kinds, AreWithin}
use Rattle.map_edits.specs.WholeStates.{WholeState}
use Rattle.map_edits.specs.Pasts.{with_parts}
use Rattle.map_edits.specs.WholeEdits.{WholeEdit, put_back}
use Rattle.map_edits.specs.Attempts.{most_marks, most_procedures}
use Rattle.map_edits.specs.Counted.{Accepted, accept_counted}

pub record AreFew (s : WholeState) : Type 0 where
  pub sources : count_by is_source s.names.entries ≤ most_sources
  pub flats : AreWithin kinds (layers s.names.entries)
  pub procedures : length s.procedures ≤ most_procedures
  pub labels : length s.labels ≤ most_marks
  pub symbols : length s.symbols ≤ most_marks

-- of what is put back alone this is asked
abbrev pub PutsBackFew : WholeState → WholeEdit → Type 0
PutsBackFew s (put_back p) = AreFew (with_parts s p.parts)
PutsBackFew s e = ⊤

abbrev pub FewStay : Type 0
FewStay = (s : WholeState) (e : WholeEdit) (a : Accepted) → AreFew s → PutsBackFew s e → accept_counted s e ≡ Ok a → AreFew a.state
