-- A formed statement names no name with a dot; the body of a formed procedure has names without dots, all different, and result comes last.
use Rattle.std.proofs.Common.{List, [], ◌∷◌, flat_map, ◌≡◌, inl, inr, true, false, ◌++◌, codes, bytes_eq, IsTrue, refl, sym, ap, subst, ◌∙◌, arith}
use Rattle.std.proofs.lemmas.Bool.{true≢false, or_left, or_right, false_from_ne_true, cases_Bool}
use Rattle.map_words.specs.Bytes.{Text}
use Rattle.map_words.specs.Names.{is_plain}
use Rattle.map_defs.specs.Ops.{Term, layer_term, number_term, term_names, Name}
use Rattle.map_defs.specs.Statements.{Written, Inner, Procedure}
use Rattle.map_defs.specs.Statements as statements
use Rattle.map_defs.specs.FlatNames as names
use Rattle.map_defs.specs.MadeProcedures.{IsUndotted, written_names, is_result, inner_names}
use Rattle.map_defs.proofs.FlatNames.{each_join}
use Rattle.map_defs.specs.FlatNames.{IsIn}
use Rattle.map_defs.specs.MadeProcedures as made
use Rattle.statement_parser.specs.Formed.{Each, IsTerm, IsWritten, AreInner, IsProcedure}
use Rattle.statement_parser.specs.Scopes.{has_name}
use Rattle.procedure_expand.proofs.Plain.{plain_undotted, plain_short, plain_named}
use Rattle.procedure_expand.specs.CalledProcedures.{AreShort}
use Rattle.map_edits.proofs.Among.{same_name, bytes_eq-self}

term_undotted : (t : Term) → IsTerm t → names.Each IsUndotted (term_names t)
term_undotted (layer_term n) h = (plain_undotted n h, tt)
term_undotted (number_term z) h = tt

terms_undotted : (ts : List Term) → Each IsTerm ts → names.Each IsUndotted (flat_map term_names ts)
terms_undotted [] h = tt
terms_undotted (t ∷ ts) h = each_join IsUndotted (term_names t) (flat_map term_names ts) (term_undotted t h.0) (terms_undotted ts h.1)

pub written_undotted : (w : Written) → IsWritten w → names.Each IsUndotted (written_names w)
written_undotted (statements.plain op) h = terms_undotted op.terms h.2
written_undotted (statements.call p ts) h = terms_undotted ts h.3

abbrev last_of : Written → Inner
last_of w = record { name = codes "result"; written = w }

-- ---- names that are known

has_more : (ns : List Text) (n m : Text) → has_name ns m ≡ true → has_name (ns ++ n ∷ []) m ≡ true
has_more [] n m h = absurd cc
has_more (k ∷ ns) n m h = elim (cases_Bool (bytes_eq k m)) [ inl e ↦ rw e refl | inr e ↦ rw e (has_more ns n m (rw e at h)) ]

has_last : (ns : List Text) (n : Text) → has_name (ns ++ n ∷ []) n ≡ true
has_last [] n = or_left (bytes_eq n n) false (bytes_eq-self n)
has_last (k ∷ ns) n = or_right (bytes_eq k n) (has_name (ns ++ n ∷ []) n) (has_last ns n)

-- a name that is known isn't one of those that come after
not_later : (ns : List Text) (is : List Inner) (m : Name) → AreInner ns is → has_name ns m ≡ true → IsIn m (inner_names is) → ⊥
not_later ns [] m inner known at = at
not_later ns (i ∷ is) m inner known (inl same) = true≢false (sym known ∙ ap (has_name ns) same ∙ inner.0.1)
not_later ns (i ∷ is) m inner known (inr later) = not_later (ns ++ i.name ∷ []) is m inner.2 (has_more ns i.name m known) later

-- ---- bodies

not_result : (n : Name) → IsTrue (is_plain n) → is_result n ≡ false
not_result n plain = false_from_ne_true (is_result n) (λ e. plain_named n plain (same_name n (codes "result") e))

in_pushed : (n : Name) (is : List Inner) (w : Written) → IsIn n (inner_names (is ++ last_of w ∷ [])) → (IsIn n (inner_names is) → ⊥) → (n ≡ codes "result" → ⊥) → ⊥
in_pushed n [] w (inl same) away other = other same
in_pushed n [] w (inr none) away other = none
in_pushed n (i ∷ is) w (inl same) away other = away (inl same)
in_pushed n (i ∷ is) w (inr later) away other = in_pushed n is w later (λ at. away (inr at)) other

made_body : (ns : List Text) (before : List Inner) (w : Written) → AreInner ns before → IsWritten w → made.IsBody (before ++ last_of w ∷ [])
made_body ns [] w inner last = (refl, written_undotted w last)
made_body ns (i ∷ []) w inner last =
    let plain = inner.0.0 in
    (not_result i.name plain, plain_undotted i.name plain, (λ at. in_pushed i.name [] w at (λ none. none) (plain_named i.name plain)), written_undotted i.written inner.1.0, made_body (ns ++ i.name ∷ []) [] w inner.2 last)
made_body ns (i ∷ j ∷ is) w inner last =
    let plain = inner.0.0 in (
      not_result i.name plain,
      plain_undotted i.name plain,
      (λ at. in_pushed i.name (j ∷ is) w at (not_later (ns ++ i.name ∷ []) (j ∷ is) i.name inner.2 (has_last ns i.name)) (plain_named i.name plain)),
      written_undotted i.written inner.1.0,
      made_body (ns ++ i.name ∷ []) (j ∷ is) w inner.2 last,
    )

made_short : (ns : List Text) (before : List Inner) (w : Written) → AreInner ns before → AreShort (before ++ last_of w ∷ [])
made_short ns [] w inner = (omega arith, tt)
made_short ns (i ∷ is) w inner = (plain_short i.name inner.0.0, made_short (ns ++ i.name ∷ []) is w inner.2)

module _ (p : Procedure) (formed : IsProcedure p) where
  pub body_made : made.IsBody p.body
  body_made = subst made.IsBody (sym formed.body.whole) (made_body p.takes formed.body.before formed.body.last formed.body.inner formed.body.result.0)

  pub body_short : AreShort p.body
  body_short = subst AreShort (sym formed.body.whole) (made_short p.takes formed.body.before formed.body.last formed.body.inner)
