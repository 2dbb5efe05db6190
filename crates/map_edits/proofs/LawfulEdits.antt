-- What each accepted edit keeps, though a statement may stand for several flat ones.
use Rattle.std.proofs.Common.{◌≡◌, ℕ, ◌+◌, ◌≤◌, Bool, true, false, cond, nat_lt, List, [], ◌∷◌, length, Option, Some, None, is_some, bytes_eq, Result, Ok, Err, ◌⊎◌, inl, inr, refl, sym, ap, subst, arith}
use Rattle.std.proofs.lemmas.Bool.{ltb-false}
use Rattle.std.proofs.lemmas.List.{length-append}
use Rattle.map_nums.specs.Grids.{Grid}
use Rattle.map_defs.specs.Ops.{Name}
use Rattle.map_defs.specs.Statements.{Procedure}
use Rattle.map_defs.specs.MadeProcedures.{IsUndotted, AreMade}
use Rattle.map_defs.specs.Expansion.{WrongCall, not_defined, wrong_count, find_procedure}
use Rattle.map_defs.specs.Calls.{wrong_call}
use Rattle.map_defs.proofs.Naming.{expansion_naming}
use Rattle.map_defs.proofs.Totals.{made_bodies, made_more}
use Rattle.map_edits.specs.Entries.{Def, source, statement, Entry, find_def, put_entry, drop_entry}
use Rattle.map_edits.specs.LayerDefs.{layers, find_making, nodes_of}
use Rattle.map_edits.specs.EngineStates.{EngineState}
use Rattle.map_edits.specs.Faults.{Fault}
use Rattle.map_edits.specs.Refusals.{Which, procedures, labels, symbols, Refusal, unknown, exists_already, beyond}
use Rattle.map_edits.specs.EditForms.{Edit, edited}
use Rattle.map_edits.specs.EntriesAfter.{entries_with}
use Rattle.map_edits.specs.Edits.{with_entries}
use Rattle.map_edits.specs.Laws.{HasNoCycle, IsApart}
use Rattle.map_edits.specs.Marks.{put_mark}
use Rattle.map_edits.specs.WholeStates.{WholeState}
use Rattle.map_edits.specs.Pasts.{Past, with_parts}
use Rattle.map_edits.specs.WholeEdits.{WholeEdit, of_names, define_procedure, label, symbol, put_back}
use Rattle.map_edits.specs.Attempts.{most_marks, most_procedures, unless_more, marks_after, with_names, with_procedure, with_labels, with_symbols, attempted}
use Rattle.map_edits.specs.StampsAfter.{stamped}
use Rattle.map_edits.specs.Counted.{Accepted, fault_after, done, unless_fault, of_attempt, accept_counted}
use Rattle.map_edits.specs.Touches.{nothing, touch_of}
use Rattle.map_edits.specs.GroupLaws.{IsGroup, AreGroups, IsLawful, IsPlainEdit, IsSaid, LawfulStays}
use Rattle.map_edits.proofs.Looks.{none_there}
use Rattle.map_edits.specs.LimitLaws.{AreFew}
use Rattle.map_edits.proofs.Accepted.{cond_err, cond_ok, IsMade, edited_is}
use Rattle.map_edits.proofs.Puts.{apart_put, apart_drop}
use Rattle.map_edits.proofs.Heads.{head_of}
use Rattle.map_edits.proofs.Groups.{groups_put, groups_drop}
use Rattle.map_edits.proofs.GroupsKept.{making_stays, put_makings, drop_keeps_none, source_keeps_none, statement_keeps_none}

-- entries of groups, apart, without a cycle
pub record AreGood (es : List Entry) : Type 0 where
  pub groups : AreGroups es
  pub apart : IsApart es
  pub none_looped : HasNoCycle (nodes_of es)

-- they are good, and each layer of another front than n is made as before
pub record IsGoodChange (es : List Entry) (n : Name) (new : List Entry) : Type 0 where
  pub good : AreGood new
  pub makings : (m : Name) → bytes_eq n (head_of m) ≡ false → find_making (layers new) m ≡ find_making (layers es) m

module _ (es : List Entry) (n : Name) (good : AreGood es) where
  pub drop_good : AreGood (drop_entry es n)
  drop_good = record { groups = groups_drop es n good.groups; apart = apart_drop es n good.apart; none_looped = drop_keeps_none es n good.groups good.apart good.none_looped }

  put_good : (d : Def) → IsUndotted n → IsGroup n d → HasNoCycle (nodes_of (put_entry es n d)) → IsGoodChange es n (put_entry es n d)
  put_good d plain group none = record {
    good = record { groups = groups_put es n d good.groups plain group; apart = apart_put es n d good.apart; none_looped = none };
    makings = put_makings es n d good.groups good.apart plain group;
  }

  source_good : (grid : Grid) (new : List Entry) → IsUndotted n → new ≡ put_entry es n (source grid) → IsGoodChange es n new
  source_good grid new plain is = subst (IsGoodChange es n) (sym is) (put_good (source grid) plain tt (source_keeps_none es n good.groups good.apart good.none_looped plain grid))

pub entries_good : (ps : List Procedure) (s : EngineState) (edit : Edit) (new : List Entry) → AreMade ps → AreGood s.entries → IsPlainEdit edit → entries_with ps s edit ≡ Ok new → IsGoodChange s.entries (edited edit) new
entries_good ps s edit new made good plain e = let r = edited_is ps s edit new e in by_made (edited edit) (r.plain plain) r.made
  where
    by_made : (n : Name) → IsUndotted n → IsMade ps s.entries new n (IsPlainEdit edit) → IsGoodChange s.entries n new
    by_made n own (inl put) = source_good s.entries n good put.grid new own put.is
    by_made n own (inr (inl put)) =
        let group = expansion_naming ps n put.written put.flats (made_bodies [] ps made) (put.plain plain) put.expanded in
        let none = statement_keeps_none s.entries n good.groups good.apart good.none_looped own put.written put.flats group put.alone in
        subst (IsGoodChange s.entries n) (sym put.is) (put_good s.entries n good (statement put.written put.flats) own group none)
    by_made n own (inr (inr is)) = subst (IsGoodChange s.entries n) (sym is) (record { good = drop_good s.entries n good; makings = making_stays s.entries n good.groups good.apart })

-- ---- the whole state

pub good_of : (s : WholeState) → IsLawful s → AreGood s.names.entries
good_of s l = record { groups = l.groups; apart = l.apart; none_looped = l.none_looped }

lawful_by : (s : WholeState) → AreMade s.procedures → AreGood s.names.entries → IsLawful s
lawful_by s made good = record { made = made; groups = good.groups; apart = good.apart; none_looped = good.none_looped }

-- a limit is kept
within_limit : (most count : ℕ) (which : Which) (u t : WholeState) → unless_more most count which u ≡ Ok t → (u ≡ t) × (count ≤ most)
within_limit most count which u t e = go (nat_lt most count) refl e
  where
    go : (b : Bool) → nat_lt most count ≡ b → cond b (Err (beyond which)) (Ok u) ≡ Ok t → (u ≡ t) × (count ≤ most)
    go true h e = absurd cc
    go false h e = (cc, ltb-false most count h)

-- an edit of names that isn't refused
pub record IsOfNames (s t : WholeState) (edit : Edit) : Type 0 where
  pub entries : List Entry
  pub made : entries_with s.procedures s.names edit ≡ Ok entries
  pub is : t ≡ record s { names = with_entries s.names entries; labels = marks_after edit s.labels; symbols = marks_after edit s.symbols }

-- an edit beside the names, which stay, and nothing of them is touched
pub record LeavesNames (s t : WholeState) (e : WholeEdit) : Type 0 where
  pub names : t.names ≡ with_entries s.names s.names.entries
  pub touch : touch_of e ≡ nothing
  pub made : IsSaid s e → AreMade s.procedures → AreMade t.procedures
  pub few : AreFew s → AreFew t

-- what an edit that isn't refused makes
abbrev pub IsTried : WholeState → WholeState → WholeEdit → Type 0
IsTried s t e = ((edit : Edit) × (e ≡ of_names edit) × IsOfNames s t edit) ⊎ ((p : Past) × (e ≡ put_back p) × (t ≡ with_parts s p.parts)) ⊎ LeavesNames s t e

module _ (s t : WholeState) where
  names_tried : (edit : Edit) (o : Result (List Entry) Refusal) → entries_with s.procedures s.names edit ≡ o → with_names s edit o ≡ Ok t → IsOfNames s t edit
  names_tried edit (Err r) is e = absurd cc
  names_tried edit (Ok es) is e = record { entries = es; made = is; is = cc }

  pub of_names_tried : (edit : Edit) → attempted s (of_names edit) ≡ Ok t → IsOfNames s t edit
  of_names_tried edit e = names_tried edit (entries_with s.procedures s.names edit) refl e

  procedure_tried : (p : Procedure) (o : Option WrongCall) → find_procedure s.procedures p.name ≡ None → wrong_call s.procedures p.body ≡ o → with_procedure s p o ≡ Ok t → LeavesNames s t (define_procedure p)
  procedure_tried p (Some (not_defined q)) new is e = absurd cc
  procedure_tried p (Some (wrong_count given wanted)) new is e = absurd cc
  procedure_tried p None new is e =
      let r = within_limit most_procedures (length s.procedures + 1) procedures _ t e in
      let longer = length-append s.procedures (p ∷ []) in let room = r.1 in
      subst (λ u. LeavesNames s u (define_procedure p)) r.0 (record {
        names = refl;
        touch = refl;
        made = λ said made. made_more s.procedures p made new is said;
        few = λ few. record { sources = few.sources; flats = few.flats; procedures = omega arith; labels = few.labels; symbols = few.symbols };
      })

  pub tried : (e : WholeEdit) → attempted s e ≡ Ok t → IsTried s t e
  tried (of_names edit) e = inl (edit, refl, of_names_tried edit e)
  tried (put_back p) e = inr (inl (p, refl, cc))
  tried (define_procedure p) e =
      let r = cond_err (is_some (find_procedure s.procedures p.name)) (exists_already p.name) (with_procedure s p (wrong_call s.procedures p.body)) t e in
      inr (inr (procedure_tried p (wrong_call s.procedures p.body) (none_there (find_procedure s.procedures p.name) r.0) refl r.1))
  tried (label n z text) e =
      let known = cond_ok (is_some (find_def s.names.entries n)) (unknown n) (with_labels s (put_mark s.labels n z text)) t e in
      let r = within_limit most_marks (length (put_mark s.labels n z text)) labels _ t known in
      inr (inr (subst (λ u. LeavesNames s u (label n z text)) r.0 (record {
        names = refl;
        touch = refl;
        made = λ said made. made;
        few = λ few. record { sources = few.sources; flats = few.flats; procedures = few.procedures; labels = r.1; symbols = few.symbols };
      })))
  tried (symbol n z sign) e =
      let known = cond_ok (is_some (find_def s.names.entries n)) (unknown n) (with_symbols s (put_mark s.symbols n z (sign ∷ []))) t e in
      let r = within_limit most_marks (length (put_mark s.symbols n z (sign ∷ []))) symbols _ t known in
      inr (inr (subst (λ u. LeavesNames s u (symbol n z sign)) r.0 (record {
        names = refl;
        touch = refl;
        made = λ said made. made;
        few = λ few. record { sources = few.sources; flats = few.flats; procedures = few.procedures; labels = few.labels; symbols = r.1 };
      })))

  -- the state has the size of the one before, and one edit more
  pub attempt_counts : (e : WholeEdit) → attempted s e ≡ Ok t → t.names ≡ with_entries s.names t.names.entries
  attempt_counts e is = by_kind (tried e is)
    where
      by_kind : IsTried s t e → t.names ≡ with_entries s.names t.names.entries
      by_kind (inl r) = rw r.2.is
      by_kind (inr (inl r)) = rw r.2
      by_kind (inr (inr r)) = rw r.names

module _ (s t : WholeState) (l : IsLawful s) where
  pub attempt_lawful : (e : WholeEdit) → IsSaid s e → attempted s e ≡ Ok t → IsLawful t
  attempt_lawful e said is = by_kind (tried s t e is)
    where
      by_kind : IsTried s t e → IsLawful t
      by_kind (inl (edit, same, r)) =
          subst IsLawful (sym r.is) (lawful_by _ l.made (entries_good s.procedures s.names edit r.entries l.made (good_of s l) (subst (IsSaid s) same said) r.made).good)
      by_kind (inr (inl (p, same, is))) =
          let back : IsSaid s (put_back p) = subst (IsSaid s) same said in
          subst IsLawful (sym is) (record { made = back.made; groups = back.groups; apart = back.apart; none_looped = back.none_looped })
      by_kind (inr (inr r)) = lawful_by t (r.made said l.made) (subst (λ (u : EngineState). AreGood u.entries) (sym r.names) (good_of s l))

  -- an edit of names makes a good change
  pub names_changed : (edit : Edit) → IsPlainEdit edit → IsOfNames s t edit → (s.names.size ≡ t.names.size) × IsGoodChange s.names.entries (edited edit) t.names.entries
  names_changed edit plain r =
      let change = entries_good s.procedures s.names edit r.entries l.made (good_of s l) plain r.made in
      (ap (λ (u : WholeState). u.names.size) (sym r.is), subst (λ (u : WholeState). IsGoodChange s.names.entries (edited edit) u.names.entries) (sym r.is) change)

-- ---- what an accepted edit makes

pub record IsDone (s : WholeState) (e : WholeEdit) (a : Accepted) : Type 0 where
  pub state : WholeState
  pub is : attempted s e ≡ Ok state
  pub same : done (touch_of e) s state ≡ a
  pub whole : stamped s state ≡ a.state
  pub faultless : fault_after e state ≡ None

module _ (s : WholeState) (e : WholeEdit) (a : Accepted) where
  by_fault : (t : WholeState) (o : Option Fault) → attempted s e ≡ Ok t → fault_after e t ≡ o → unless_fault (touch_of e) s t o ≡ Ok a → IsDone s e a
  by_fault t None made fault is =
      let same : done (touch_of e) s t ≡ a = cc in
      record { state = t; is = made; same = same; whole = ap (λ (b : Accepted). b.state) same; faultless = fault }
  by_fault t (Some f) made fault is = absurd cc

  by_attempt : (o : Result WholeState Refusal) → attempted s e ≡ o → of_attempt s e o ≡ Ok a → IsDone s e a
  by_attempt (Err r) made is = absurd cc
  by_attempt (Ok t) made is = by_fault t (fault_after e t) made refl is

  pub done_is : accept_counted s e ≡ Ok a → IsDone s e a
  unfolding accept_counted
  done_is is = by_attempt (attempted s e) refl is

pub lawful_stays : LawfulStays
lawful_stays s e a l said is =
    let r = done_is s e a is in
    let t = attempt_lawful s r.state l e said r.is in
    subst IsLawful r.whole (lawful_by _ t.made (good_of r.state t))
