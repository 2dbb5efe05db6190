-- What an edit notes beside the names: a procedure, a label or a symbol.
use Rattle.std.specs.Prelude.{◌≡◌, ◌+◌, ◌-◌, ◌<◌, ◌≤◌, List, [], ◌∷◌, ◌++◌, take, drop, length, None, true, is_some, Result, Ok, Err}
use Rattle.map_defs.specs.Statements.{Procedure}
use Rattle.map_defs.specs.Expansion.{find_procedure}
use Rattle.map_defs.specs.Calls.{wrong_call}
use Rattle.statement_parser.specs.Formed.{IsProcedure}
use Rattle.statement_parser.specs.Procedures.{procedure_view}
use Rattle.map_edits.specs.Entries.{find_def}
use Rattle.map_edits.specs.Marks.{Mark, put_mark}
use Rattle.map_edits.specs.Attempts.{most_marks, most_procedures}
use Rattle.map_edits.specs.WholeStates.{WholeState}
use Rattle.map_edits.specs.WholeEdits.{WholeEdit, define_procedure, label, symbol}
use Rattle.map_edits.specs.Pasts.{Parts, parts_of}
use Rattle.map_marks.specs.Taken.{given_back}
use Rattle.map_marks.specs.declared.taken.Taken.{Taken}
use Rattle.kept_map.specs.Maps.{seen}
use Rattle.kept_map.specs.declared.maps.KeptMap.{KeptMap}
use Rattle.live_engine.specs.declared.noting.Note.{Note}
use Rattle.live_engine.specs.declared.noting.Note.TheVariants as notes
use Rattle.live_engine.specs.declared.noting.NoteBack.{NoteBack}
use Rattle.live_engine.specs.declared.noting.NoteBack.TheVariants as backs

-- other procedures, labels and symbols beside the names
abbrev pub with_beside : KeptMap → Parts → KeptMap
with_beside m p = record m { procedures = p.procedures; labels = p.labels; symbols = p.symbols }

abbrev pub edit_of_note : Note → WholeEdit
edit_of_note (notes.Procedure p) = define_procedure (procedure_view p)
edit_of_note (notes.Label n z text) = label n z text
edit_of_note (notes.Symbol n z sign) = symbol n z sign

-- ---- what is noted after

abbrev pub procedures_with : List Procedure → Note → List Procedure
procedures_with ps (notes.Procedure p) = ps ++ procedure_view p ∷ []
procedures_with ps note = ps

abbrev pub labels_with : List Mark → Note → List Mark
labels_with marks (notes.Label n z text) = put_mark marks n z text
labels_with marks note = marks

abbrev pub symbols_with : List Mark → Note → List Mark
symbols_with marks (notes.Symbol n z sign) = put_mark marks n z (sign ∷ [])
symbols_with marks note = marks

-- ---- when it may be noted

-- a procedure whose name is new and whose calls are right, and not too many
pub record MayAdd (ps : List Procedure) (p : Procedure) : Type 0 where
  pub formed : IsProcedure p
  pub new : find_procedure ps p.name ≡ None
  pub right : wrong_call ps p.body ≡ None
  pub few : length ps + 1 ≤ most_procedures

-- a mark of a name that is there, and not too many
abbrev pub MayNote : WholeState → Note → Type 0
MayNote s (notes.Procedure p) = MayAdd s.procedures (procedure_view p)
MayNote s (notes.Label n z text) = (is_some (find_def s.names.entries n) ≡ true) × (length (put_mark s.labels n z text) ≤ most_marks)
MayNote s (notes.Symbol n z sign) = (is_some (find_def s.names.entries n) ≡ true) × (length (put_mark s.symbols n z (sign ∷ [])) ≤ most_marks)

-- the marks that a new one took the place of go back
abbrev pub IsMarkBack : List Mark → List Mark → List Taken → Type 0
IsMarkBack old new taken = given_back (drop 1 new) taken ≡ old

-- what a note took the place of
abbrev pub IsNoteBack : KeptMap → Note → NoteBack → Type 0
IsNoteBack old (notes.Procedure p) backs.Procedure = Unit {0}
IsNoteBack old (notes.Label n z text) (backs.Label taken) = IsMarkBack old.labels (put_mark old.labels n z text) taken.items
IsNoteBack old (notes.Symbol n z sign) (backs.Symbol taken) = IsMarkBack old.symbols (put_mark old.symbols n z (sign ∷ [])) taken.items
IsNoteBack old note back = ⊥

-- the map with it, or as before for want of memory
abbrev pub IsNoted : {E : Type 0} → KeptMap → KeptMap → Note → Result NoteBack E → Type 0
IsNoted old new note (Ok back) = (new ≡ record old { procedures = procedures_with old.procedures note; labels = labels_with old.labels note; symbols = symbols_with old.symbols note }) × IsNoteBack old note back
IsNoted old new note (Err _) = new ≡ old

-- ---- what was noted last is taken back

abbrev pub procedures_without : NoteBack → List Procedure → List Procedure
procedures_without backs.Procedure ps = take (length ps - 1) ps
procedures_without back ps = ps

abbrev pub labels_without : NoteBack → List Mark → List Mark
labels_without (backs.Label taken) marks = given_back (drop 1 marks) taken.items
labels_without back marks = marks

abbrev pub symbols_without : NoteBack → List Mark → List Mark
symbols_without (backs.Symbol taken) marks = given_back (drop 1 marks) taken.items
symbols_without back marks = marks

-- the parts of the state before the note, from those after it
abbrev pub without_note : NoteBack → Parts → Parts
without_note back s = record s { procedures = procedures_without back s.procedures; labels = labels_without back s.labels; symbols = symbols_without back s.symbols }

-- there is something to take out
abbrev pub SuitsNote : Parts → NoteBack → Type 0
SuitsNote s backs.Procedure = 0 < length s.procedures
SuitsNote s (backs.Label taken) = 0 < length s.labels
SuitsNote s (backs.Symbol taken) = 0 < length s.symbols

-- the map without it, or as before for want of memory
abbrev pub IsUnnoted : {V : Type 0} → KeptMap → KeptMap → NoteBack → Result V NoteBack → Type 0
IsUnnoted old new back (Ok _) = new ≡ with_beside old (without_note back (parts_of (seen old)))
IsUnnoted old new back (Err left) = (left ≡ back) × (new ≡ old)
