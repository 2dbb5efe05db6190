-- What an edit does, by what the engine answers.
use Rattle.std.proofs.Common.{◌≡◌, ℕ, List, Some, Result, Ok, Err, IfOk, refl, ap, ◌∙◌, sym, subst}
use Rattle.map_nums.specs.Grids.{Grid}
use Rattle.map_nums.specs.declared.NoMemory.{NoMemory}
use Rattle.grid_text.specs.declared.Header.{Header}
use Rattle.statement_parser.specs.declared.language.Place.{Place}
use Rattle.kept_map.specs.Repairs.{counts_view}
use Rattle.live_engine.specs.declared.edits.Accepted.{Accepted}
use Rattle.live_engine.specs.declared.edits.Refusal.{Refusal}
use Rattle.live_engine.specs.declared.edits.Refusal.TheVariants as an_edit
use Rattle.live_engine.specs.Accepts.{Refuses, which_of}
use Rattle.live_engine.specs.declared.inverses.Inverse.{Inverse}
use Rattle.undo_shelf.specs.Histories.{pasts_from}
use Rattle.map_defs.specs.Ops.{Name}
use Rattle.map_edits.specs.EditForms.{load}
use Rattle.map_edits.specs.Refusals as edits
use Rattle.map_edits.specs.Faults as faults
use Rattle.map_edits.specs.WholeStates.{WholeState}
use Rattle.map_edits.specs.WholeEdits.{WholeEdit, of_names}
use Rattle.map_edits.specs.Pasts.{Past, parts_of}
use Rattle.map_edits.specs.Counted as counted
use Rattle.map_edits.specs.Counted.{accept_counted}
use Rattle.map_machine.specs.declared.Kind.TheVariants as kinds
use Rattle.map_machine.specs.States.{MapState}
use Rattle.map_machine.specs.Replies.{load_refused_reply}
use Rattle.map_machine.specs.Causes.{edit_cause}
use Rattle.map_machine.specs.Loads.{opened, grid_load}
use Rattle.map_session.specs.Causes.{edit_told}
use Rattle.map_session.specs.Said.{Says}
use Rattle.map_session.specs.Answered.{LoadsAs}
use Rattle.map_session.specs.declared.replies.Reply.{Reply}

some_same : {A : Type 0} (x y : A) → Some x ≡ Some y → x ≡ y
some_same x y e = cc

-- a session's state, by what it keeps
abbrev pub state : Header → Place → WholeState → List Past → MapState
state h p whole pasts = record { header = h; place = p; whole = whole; pasts = pasts }

-- what the machine is told of an edit that the engine accepted
abbrev pub outcome : WholeState → Accepted → counted.Accepted
outcome new a = record { state = new; counts = counts_view a.counts }

-- what an edit that is refused leaves, and what is told of it
pub record Turned (old new : WholeState) (e : WholeEdit) (text : List ℕ) : Type 0 where
  pub cause : edits.Refusal
  pub is : accept_counted old e ≡ Err cause
  pub told : edit_cause cause ≡ text
  pub kept : new ≡ old

pub turned : (old new : WholeState) (e : WholeEdit) (r : Refusal) (text : List ℕ) → Refuses old new e r → edit_told r ≡ Some text → Turned old new e text
turned old new e (an_edit.Unknown n) text a t = record { cause = edits.unknown n; is = a.0; told = some_same _ _ t; kept = a.1 }
turned old new e (an_edit.Derived n) text a t = record { cause = edits.is_derived n; is = a.0; told = some_same _ _ t; kept = a.1 }
turned old new e (an_edit.Exists n) text a t = record { cause = edits.exists_already n; is = a.0; told = some_same _ _ t; kept = a.1 }
turned old new e (an_edit.Size rows columns) text a t = record { cause = edits.wrong_size (record { rows = rows; columns = columns }); is = a.0; told = some_same _ _ t; kept = a.1 }
turned old new e (an_edit.Limit which) text a t = record { cause = edits.beyond (which_of which); is = a.0; told = some_same _ _ t; kept = a.1 }
turned old new e (an_edit.Cycle n) text a t = record { cause = edits.cycle n; is = a.0; told = some_same _ _ t; kept = a.1 }
turned old new e (an_edit.Viewers n c) text a t = record { cause = edits.fault (faults.too_many_viewers n c); is = a.0; told = some_same _ _ t; kept = a.1 }
turned old new e (an_edit.Overflow n r c) text a t = record { cause = edits.fault (faults.overflow n r c); is = a.0; told = some_same _ _ t; kept = a.1 }
turned old new e (an_edit.NoProcedure n) text a t = record { cause = edits.no_procedure n; is = a.0; told = some_same _ _ t; kept = a.1 }
turned old new e (an_edit.Terms given wanted) text a t = record { cause = edits.wrong_terms given wanted; is = a.0; told = some_same _ _ t; kept = a.1 }
turned old new e an_edit.NoMemory text a t = absurd (cc)

-- the state by what is held to take edits back
abbrev pub holding : Header → Place → WholeState → List Inverse → MapState
holding h p whole held = state h p whole (pasts_from (parts_of whole) held)

pub held_same : (h : Header) (p : Place) (old new : WholeState) (held left : List Inverse) → new ≡ old → left ≡ held → holding h p new left ≡ holding h p old held
held_same h p old new held left same kept = ap (λ (w : WholeState). holding h p w left) same ∙ ap (holding h p old) kept

-- a load that is refused
pub load_turned : (h : Header) (p : Place) (old new : WholeState) (held : List Inverse) (s : MapState) (name copied : Name) (grid : Grid) (r : Refusal) (cause text : List ℕ) (reply : Result Reply NoMemory) → holding h p old held ≡ s
    → copied ≡ name → Refuses old new (of_names (load copied grid)) r → edit_told r ≡ Some cause → text ≡ cause → IfOk reply (Says (load_refused_reply name text) kinds.Refused) → LoadsAs s (holding h p new held) (grid_load s name grid) reply
load_turned h p old new held s name copied grid r cause text (Ok reply) w named a t same says =
    let u = turned old new (of_names (load copied grid)) r cause a t in
    let is : accept_counted old (of_names (load name grid)) ≡ Err u.cause = subst (λ (n : Name). accept_counted old (of_names (load n grid)) ≡ Err u.cause) named u.is in
    subst (λ (v : MapState). LoadsAs v (holding h p new held) (grid_load v name grid) (Ok reply)) w
    (subst (λ (x : Result counted.Accepted edits.Refusal). LoadsAs (holding h p old held) (holding h p new held) (opened (holding h p old held) name x) (Ok reply)) (sym is)
    (held_same h p old new held held u.kept refl, says.0 ∙ ap (load_refused_reply name) (same ∙ sym u.told), says.1))
load_turned h p old new held s name copied grid r cause text (Err x) w named a t same says = held_same h p old new held held (turned old new (of_names (load copied grid)) r cause a t).kept refl ∙ w
