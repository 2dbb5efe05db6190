-- Laws of states in which a statement may stand for several flat ones.
use Rattle.std.specs.Prelude.{◌≡◌, List, [], ◌∷◌, None, Ok, ⊤}
use Rattle.map_defs.specs.Ops.{Name}
use Rattle.map_defs.specs.FlatNames.{Each, IsInside, AreFlats}
use Rattle.map_defs.specs.MadeProcedures.{IsUndotted, written_names, IsBody, AreMade}
use Rattle.map_edits.specs.Entries.{Def, source, statement, Entry}
use Rattle.map_edits.specs.LayerDefs.{nodes_of}
use Rattle.map_edits.specs.Faults.{fault_of}
use Rattle.map_edits.specs.EditForms.{Edit, define, edited}
use Rattle.map_edits.specs.Laws.{HasNoCycle, IsApart}
use Rattle.map_edits.specs.WholeStates.{WholeState}
use Rattle.map_edits.specs.Pasts.{Past}
use Rattle.map_edits.specs.WholeEdits.{WholeEdit, of_names, define_procedure, put_back}
use Rattle.map_edits.specs.Edits.{with_entries}
use Rattle.map_edits.specs.Touching.{ChangesOnly}
use Rattle.map_edits.specs.Counted.{Accepted, accept_counted}

-- a statement's own flat statement is the last, the others begin with its name and a dot, all differ, and each need with a dot is an earlier one
abbrev pub IsGroup : Name → Def → Type 0
IsGroup n (source grid) = ⊤
IsGroup n (statement written flats) = AreFlats (IsInside n) n [] flats

abbrev pub AreGroups : List Entry → Type 0
AreGroups [] = ⊤
AreGroups (e ∷ es) = IsUndotted e.name × IsGroup e.name e.def × AreGroups es

-- what each accepted edit keeps
pub record IsLawful (s : WholeState) : Type 0 where
  pub made : AreMade s.procedures
  pub groups : AreGroups s.names.entries
  pub apart : IsApart s.names.entries
  pub none_looped : HasNoCycle (nodes_of s.names.entries)

-- names without a dot
abbrev pub IsPlainEdit : Edit → Type 0
IsPlainEdit (define n written) = IsUndotted n × Each IsUndotted (written_names written)
IsPlainEdit edit = IsUndotted (edited edit)

-- the parts of a state that was reached: they are lawful, have no fault, and differ from those of this state in what is touched alone
pub record IsReached (s : WholeState) (p : Past) : Type 0 where
  pub made : AreMade p.parts.procedures
  pub groups : AreGroups p.parts.entries
  pub apart : IsApart p.parts.entries
  pub none_looped : HasNoCycle (nodes_of p.parts.entries)
  pub faultless : fault_of (with_entries s.names p.parts.entries) ≡ None
  pub only : ChangesOnly p.touch s.names (with_entries s.names p.parts.entries)

-- what a line can say: names without a dot, and a procedure whose inner names are right; and what an undo puts back
abbrev pub IsSaid : WholeState → WholeEdit → Type 0
IsSaid s (of_names edit) = IsPlainEdit edit
IsSaid s (define_procedure p) = IsBody p.body
IsSaid s (put_back p) = IsReached s p
IsSaid s e = ⊤

abbrev pub LawfulStays : Type 0
LawfulStays = (s : WholeState) (e : WholeEdit) (a : Accepted) → IsLawful s → IsSaid s e → accept_counted s e ≡ Ok a → IsLawful a.state

-- of what is put back alone this is asked
abbrev pub PutsBackReached : WholeState → WholeEdit → Type 0
PutsBackReached s (put_back p) = IsReached s p
PutsBackReached s e = ⊤

-- no accepted edit leaves a fault, though the rows of some have none
abbrev pub NoFaultStays : Type 0
NoFaultStays = (s : WholeState) (e : WholeEdit) (a : Accepted) → IsLawful s → fault_of s.names ≡ None → PutsBackReached s e → accept_counted s e ≡ Ok a → fault_of a.state.names ≡ None
