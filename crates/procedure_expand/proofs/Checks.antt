-- What a check finds, and what it means for the expansion.
use Rattle.std.proofs.Common.{◌≡◌, ℕ, ◌+◌, ◌<◌, ◌≤◌, List, [], ◌∷◌, ◌++◌, length, drop, get_or, Option, Some, None, Result, Ok, Err, refl, sym, ap, subst, ◌∙◌, arith}
use Rattle.std.specs.Prelude.{IsTrue, map}
use Rattle.std.proofs.lemmas.List.{drop_more, drop_all, length-append, map_push, length-map}
use Rattle.map_words.specs.Bytes.{Text}
use Rattle.map_words.specs.Names.{is_plain}
use Rattle.map_defs.specs.Ops.{Name}
use Rattle.map_defs.specs.Statements as statements
use Rattle.map_defs.specs.Statements.{Flat, Procedure}
use Rattle.map_defs.specs.Expansion.{WrongCall, not_defined, wrong_count, find_procedure, both_flats, expansion_of}
use Rattle.map_nums.specs.Options.{first_some}
use Rattle.map_defs.specs.Calls.{wrong_in, wrong_call}
use Rattle.statement_parser.specs.declared.line.Written.{Written}
use Rattle.statement_parser.specs.declared.procedure.Procedure.{Procedure as Held}
use Rattle.statement_parser.specs.Views.{written_view}
use Rattle.statement_parser.specs.Procedures.{body_view, procedure_view, procedures_view}
use Rattle.procedure_expand.specs.declared.refusal.ExpandRefusal.{ExpandRefusal}
use Rattle.procedure_expand.specs.declared.refusal.ExpandRefusal.TheVariants.{Unknown, Count, Limit, NoMemory}
use Rattle.map_defs.specs.MadeProcedures.{IsBody, AreMade}
use Rattle.procedure_expand.specs.CalledProcedures.{AreShort, HaveShortNames, AreProcs, most_procedures}
use Rattle.procedure_expand.specs.Answers.{Gives, Finds, IsPrefix, IsExpanded, IsRefused}
use Rattle.procedure_expand.proofs.Plain.{plain_short, plain_named, short_more}
use Rattle.map_defs.proofs.Totals.{expansion_total, expansion_wrong, made_more}

-- ---- a body

-- what is wrong in a body after a statement
abbrev or_later : Option WrongCall → List Procedure → List (Text × Written) → Option WrongCall
or_later wrong ps body = first_some (wrong ∷ map (λ (i : statements.Inner). wrong_in ps i.written) (body_view body))

wrong_more : (ps : List Procedure) (body : List (Text × Written)) (i : ℕ) (d : Text × Written) → i < length body →
    wrong_call ps (body_view (drop i body)) ≡ or_later (wrong_in ps (written_view (get_or body i d).1)) ps (drop (i + 1) body)
unfolding wrong_call
wrong_more ps body i d lt = ap (λ q. wrong_call ps (body_view q)) (drop_more body i d lt)

module _ (ps : List Procedure) (body : List (Text × Written)) (i : ℕ) (x : Text × Written) (lt : i < length body) (at : x ≡ get_or body i x) (so_far : wrong_call ps (body_view (drop i body)) ≡ wrong_call ps (body_view body)) where
  step : wrong_call ps (body_view body) ≡ or_later (wrong_in ps (written_view x.1)) ps (drop (i + 1) body)
  step = sym so_far ∙ (wrong_more ps body i x lt ∙ ap (λ (y : Text × Written). or_later (wrong_in ps (written_view y.1)) ps (drop (i + 1) body)) (sym at))

  pub wrong_next : wrong_in ps (written_view x.1) ≡ None → wrong_call ps (body_view (drop (i + 1) body)) ≡ wrong_call ps (body_view body)
  unfolding wrong_call
  wrong_next e = sym (step ∙ ap (λ q. or_later q ps (drop (i + 1) body)) e)

  first_wrong : (w : WrongCall) → wrong_in ps (written_view x.1) ≡ Some w → wrong_call ps (body_view body) ≡ Some w
  first_wrong w e = step ∙ ap (λ q. or_later q ps (drop (i + 1) body)) e

  pub wrong_stops : (V W : Type 0) (e : ExpandRefusal) → Finds {V = V} (wrong_in ps (written_view x.1)) (Err e) → Finds {V = W} (wrong_call ps (body_view body)) (Err e)
  wrong_stops V W (Unknown n) h = first_wrong (not_defined n) h
  wrong_stops V W (Count a b) h = first_wrong (wrong_count a b) h
  wrong_stops V W Limit h = absurd h
  wrong_stops V W NoMemory h = tt

pub wrong_done : (ps : List Procedure) (body : List (Text × Written)) (i : ℕ) → length body ≤ i → wrong_call ps (body_view (drop i body)) ≡ wrong_call ps (body_view body) → wrong_call ps (body_view body) ≡ None
unfolding wrong_call
wrong_done ps body i le e = sym e ∙ ap (λ q. wrong_call ps (body_view q)) (drop_all i body le)

-- ---- a procedure more

pub procs_more : (held : List Held) (p : Held) (ps : List Procedure) → procedures_view held ≡ ps → AreProcs (procedures_view held) → find_procedure ps p.name ≡ None → wrong_call ps (body_view p.body.items) ≡ None → IsBody (body_view p.body.items) → AreShort (body_view p.body.items) → length ps < most_procedures → AreProcs (procedures_view (held ++ p ∷ []))
procs_more held p ps same procs new right body short few =
    let made : AreMade ps = subst AreMade same procs.made in
    let shorts : HaveShortNames ps = subst HaveShortNames same procs.short in
    let joined : procedures_view (held ++ p ∷ []) ≡ ps ++ procedure_view p ∷ [] = map_push procedure_view held p ∙ ap (λ q. q ++ procedure_view p ∷ []) same in
    subst AreProcs (sym joined) (record {
      made = made_more ps (procedure_view p) made new right body;
      short = short_more ps (procedure_view p) shorts short;
      few = omega (arith, length-append ps (procedure_view p ∷ []));
    })

-- ---- an expansion

pub both_start : (r : Result (List Flat) WrongCall) → both_flats (Ok []) r ≡ r
both_start (Ok fs) = refl
both_start (Err w) = refl

pub plain_prefix : (held : List Held) (n : Name) → IsTrue (is_plain n) → length (procedures_view held) ≤ most_procedures → IsPrefix (length held) n
plain_prefix held n plain few =
    let short : length n ≤ 32 = plain_short n plain in
    let same = length-map held procedure_view in
    record { named = plain_named n plain; short = omega arith }

module _ (ps : List Procedure) (n : Name) (w : statements.Written) where
  found_stops : (V A : Type 0) (e : ExpandRefusal) → Finds {V = V} (wrong_in ps w) (Err e) → IsExpanded {A = A} (expansion_of ps n w) (Err e)
  found_stops V A (Unknown m) h = expansion_wrong ps n w (not_defined m) h
  found_stops V A (Count a b) h = expansion_wrong ps n w (wrong_count a b) h
  found_stops V A Limit h = absurd h
  found_stops V A NoMemory h = tt

  pub checked_stops : (V A : Type 0) (e : ExpandRefusal) (wrong : Option WrongCall) → wrong ≡ wrong_in ps w → Finds {V = V} wrong (Err e) → IsExpanded {A = A} (expansion_of ps n w) (Err e)
  checked_stops V A e wrong same h = let P : Option WrongCall → Type 0 = λ o. Finds {V = V} o (Err e) in found_stops V A e (subst P same h)

  module _ (made : AreMade ps) (right : wrong_in ps w ≡ None) where
    none_wrong : (wrong : WrongCall) → expansion_of ps n w ≡ Err wrong → ⊥
    none_wrong wrong e = let t = expansion_total ps n w made right in let both : Ok t.0 ≡ Err wrong = sym t.1 ∙ e in cc

    gives_stops : (V A : Type 0) (held : List Flat) (e : ExpandRefusal) → Gives {V = V} held (expansion_of ps n w) (Err e) → IsExpanded {A = A} (expansion_of ps n w) (Err e)
    gives_stops V A held (Unknown m) h = h
    gives_stops V A held (Count a b) h = h
    gives_stops V A held Limit h =
        let t = expansion_total ps n w made right in
        let P : Result (List Flat) WrongCall → Type 0 = λ r. Gives {V = V} held r (Err Limit) in
        (t.0, t.1, subst P t.1 h)
    gives_stops V A held NoMemory h = tt

    gives_refused : (V W : Type 0) (held : List Flat) (e : ExpandRefusal) → Gives {V = V} held (expansion_of ps n w) (Err e) → IsRefused {V = W} (wrong_in ps w) (Err e)
    gives_refused V W held (Unknown m) h = absurd (none_wrong (not_defined m) h)
    gives_refused V W held (Count a b) h = absurd (none_wrong (wrong_count a b) h)
    gives_refused V W held Limit h = right
    gives_refused V W held NoMemory h = tt

    module _ (V : Type 0) (held : List Flat) (e : ExpandRefusal) (all : Result (List Flat) WrongCall) (same : all ≡ expansion_of ps n w) (h : Gives {V = V} held all (Err e)) where
      gives : Gives {V = V} held (expansion_of ps n w) (Err e)
      gives = let P : Result (List Flat) WrongCall → Type 0 = λ r. Gives {V = V} held r (Err e) in subst P same h

      pub put_stops : (A : Type 0) → IsExpanded {A = A} (expansion_of ps n w) (Err e)
      put_stops A = gives_stops V A held e gives

      pub put_refused : (W : Type 0) → IsRefused {V = W} (wrong_in ps w) (Err e)
      put_refused W = gives_refused V W held e gives
