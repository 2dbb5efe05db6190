-- The state that an edit would make, its fault apart, or the first refusal of its row.
use Rattle.std.specs.Prelude.{ℕ, ◌+◌, nat_lt, List, [], ◌∷◌, ◌++◌, length, Option, Some, None, is_some, Result, Ok, Err, if◌then◌else◌}
use Rattle.map_defs.specs.Statements.{Procedure}
use Rattle.map_defs.specs.Expansion.{WrongCall, not_defined, wrong_count, find_procedure}
use Rattle.map_defs.specs.Calls.{wrong_call}
use Rattle.map_edits.specs.Entries.{Entry, find_def}
use Rattle.map_edits.specs.Refusals.{Which, labels, symbols, procedures, Refusal, unknown, exists_already, beyond, no_procedure, wrong_terms}
use Rattle.map_edits.specs.EditForms.{Edit, drop_name}
use Rattle.map_edits.specs.Edits.{with_entries}
use Rattle.map_edits.specs.Marks.{Mark, put_mark, drop_marks}
use Rattle.map_edits.specs.WholeStates.{WholeState}
use Rattle.map_edits.specs.Pasts.{with_parts}
use Rattle.map_edits.specs.WholeEdits.{WholeEdit, of_names, define_procedure, label, symbol, put_back}
use Rattle.map_edits.specs.EntriesAfter.{entries_with}

-- of labels, and of symbols
abbrev pub most_marks : ℕ
most_marks = 4096

abbrev pub most_procedures : ℕ
most_procedures = 32

-- the count is that after the edit
abbrev pub unless_more : ℕ → ℕ → Which → WholeState → Result WholeState Refusal
unless_more most count which t = if nat_lt most count then Err (beyond which) else Ok t

-- one more edit is counted; the names are as they were
abbrev pub counted : WholeState → WholeState
counted s = record s { names = with_entries s.names s.names.entries }

-- a name that is dropped loses its labels and symbols
abbrev pub marks_after : Edit → List Mark → List Mark
marks_after (drop_name n) marks = drop_marks marks n
marks_after edit marks = marks

abbrev pub with_names : WholeState → Edit → Result (List Entry) Refusal → Result WholeState Refusal
with_names s edit (Err r) = Err r
with_names s edit (Ok entries) = Ok (record s { names = with_entries s.names entries; labels = marks_after edit s.labels; symbols = marks_after edit s.symbols })

abbrev pub with_procedure : WholeState → Procedure → Option WrongCall → Result WholeState Refusal
with_procedure s p (Some (not_defined q)) = Err (no_procedure q)
with_procedure s p (Some (wrong_count given wanted)) = Err (wrong_terms given wanted)
with_procedure s p None = unless_more most_procedures (length s.procedures + 1) procedures (record (counted s) { procedures = s.procedures ++ p ∷ [] })

abbrev pub with_labels : WholeState → List Mark → Result WholeState Refusal
with_labels s marks = unless_more most_marks (length marks) labels (record (counted s) { labels = marks })

abbrev pub with_symbols : WholeState → List Mark → Result WholeState Refusal
with_symbols s marks = unless_more most_marks (length marks) symbols (record (counted s) { symbols = marks })

abbrev pub attempted : WholeState → WholeEdit → Result WholeState Refusal
attempted s (of_names edit) = with_names s edit (entries_with s.procedures s.names edit)
attempted s (define_procedure p) = if is_some (find_procedure s.procedures p.name) then Err (exists_already p.name) else with_procedure s p (wrong_call s.procedures p.body)
attempted s (label n z text) = if is_some (find_def s.names.entries n) then with_labels s (put_mark s.labels n z text) else Err (unknown n)
attempted s (symbol n z sign) = if is_some (find_def s.names.entries n) then with_symbols s (put_mark s.symbols n z (sign ∷ [])) else Err (unknown n)
attempted s (put_back p) = Ok (with_parts s p.parts)
