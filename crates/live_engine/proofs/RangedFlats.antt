-- The flat statements of a formed statement have their numbers in range, where the bodies of all procedures are formed.
use Rattle.std.proofs.Common.{◌≡◌, ℕ, zero, suc, List, [], ◌∷◌, ◌++◌, map, length, codes, Some, Result, Ok, Err, bytes_eq, refl, sym, subst}
use Rattle.std.specs.List.{All, AllByRecursion as ByRecursion}
use Rattle.std.proofs.lemmas.Bool.{cond_both}
use Rattle.std.proofs.lemmas.List.{length-map}
use Rattle.std.proofs.lemmas.List.Elements.{All-from_recursion, recursion_from_All}
use Rattle.std.proofs.lemmas.Option.{same_Some}
use Rattle.map_words.specs.Bytes.{Text}
use Rattle.map_defs.specs.Ops.{Name, Term, layer_term, number_term, Op}
use Rattle.map_defs.specs.Facts.{facts}
use Rattle.map_defs.specs.Statements.{Written, plain, call, Flat, Inner, Procedure}
use Rattle.map_defs.specs.Bindings.{Binding, named_term, term_with, op_with, given_for}
use Rattle.map_defs.specs.Expansion.{WrongCall, find_procedure, Expands, inner_flats, inner_name, dotted, body_flats, called, called_flats, call_flats, expansion_of}
use Rattle.map_defs.proofs.Naming.{both_are, called_is}
use Rattle.map_edits.proofs.Listed.{each_more, each_append}
use Rattle.statement_parser.specs.Formed.{Each, IsBetween, IsWritten, AreInner, IsBody, IsProcedure}
use Rattle.statement_parser.specs.Views.{op_view}
use Rattle.procedure_expand.specs.declared.flat.Flat as held
use Rattle.procedure_expand.specs.Flats.{flats_view}
use Rattle.op_jobs.specs.Ranges.{IsInRange, HasRanges}
use Rattle.op_jobs.proofs.Ranges.{each_of_line, ranges_of}

-- ---- what is formed is in range

abbrev WrittenInRange : Written → Type 0
WrittenInRange (plain op) = HasRanges op
WrittenInRange (call p ts) = Each IsInRange ts

written_ranges : (w : Written) → IsWritten w → WrittenInRange w
written_ranges (plain op) h = ranges_of op h
written_ranges (call p ts) h = each_of_line ts h.3

-- ---- terms that stand for what is bound

abbrev BoundInRange : List Binding → Type 0
BoundInRange bs = ByRecursion (λ (b : Binding). IsInRange b.term) bs

named_ranges : (bs : List Binding) (n : Name) → BoundInRange bs → IsInRange (named_term bs n)
named_ranges [] n bound = tt
named_ranges (b ∷ bs) n bound = cond_both (bytes_eq b.name n) b.term (named_term bs n) IsInRange (λ same. bound.0) (λ other. named_ranges bs n bound.1)

given_ranges : (takes : List Name) (ts : List Term) → Each IsInRange ts → BoundInRange (given_for takes ts)
given_ranges [] ts h = tt
given_ranges (n ∷ ns) [] h = tt
given_ranges (n ∷ ns) (t ∷ ts) h = (h.0, given_ranges ns ts h.1)

module _ (bs : List Binding) (bound : BoundInRange bs) where
  with_term : (t : Term) → IsInRange t → IsInRange (term_with bs t)
  with_term (layer_term n) h = named_ranges bs n bound
  with_term (number_term z) h = h

  with_terms : (ts : List Term) → Each IsInRange ts → Each IsInRange (map (term_with bs) ts)
  with_terms [] h = tt
  with_terms (t ∷ ts) h = (with_term t h.0, with_terms ts h.1)

  with_op : (op : Op) → HasRanges op → HasRanges (op_with bs op)
  with_op op h =
      let same : length (map (term_with bs) op.terms) ≡ length op.terms = length-map op.terms (term_with bs) in
      (h.0, subst (λ n. IsBetween (facts op.head).least (facts op.head).most n) (sym same) h.1, with_terms op.terms h.2)

-- ---- an expansion

abbrev FlatsInRange : List Flat → Type 0
FlatsInRange fs = ByRecursion (λ (f : Flat). HasRanges f.op) fs

-- what a call gives is in range, where its terms are
abbrev IsRanged : Expands → Type 0
IsRanged expand = (name prefix p : Name) (ts : List Term) (fs : List Flat) → Each IsInRange ts → expand name prefix p ts ≡ Ok fs → FlatsInRange fs

abbrev BodyInRange : List Inner → Type 0
BodyInRange is = ByRecursion (λ (i : Inner). WrittenInRange i.written) is

one_flat : (name : Name) (op : Op) (fs : List Flat) (r : Result (List Flat) WrongCall) → HasRanges op → r ≡ Ok (record { name = name; op = op } ∷ []) → r ≡ Ok fs → FlatsInRange fs
one_flat name op fs r h is e =
    let same : record { name = name; op = op } ∷ [] ≡ fs = cc in
    subst FlatsInRange same (h, tt)

module _ (expand : Expands) (ranged : IsRanged expand) where
  inner_ranges : (bs : List Binding) (name prefix : Name) (w : Written) (fs : List Flat) → BoundInRange bs → WrittenInRange w → inner_flats expand bs name prefix w ≡ Ok fs → FlatsInRange fs
  inner_ranges bs name prefix (plain op) fs bound h e = one_flat name (op_with bs op) fs (inner_flats expand bs name prefix (plain op)) (with_op bs bound op h) refl e
  inner_ranges bs name prefix (call p ts) fs bound h e = ranged name prefix p (map (term_with bs) ts) fs (with_terms bs bound ts h) e

  body_ranges : (name prefix : Name) (bs : List Binding) (is : List Inner) (fs : List Flat) → BoundInRange bs → BodyInRange is → body_flats expand name prefix bs is ≡ Ok fs → FlatsInRange fs
  body_ranges name prefix bs [] fs bound h e = let same : [] ≡ fs = cc in subst FlatsInRange same tt
  body_ranges name prefix bs (i ∷ is) fs bound h e =
      let more : Binding = record { name = i.name; term = layer_term (inner_name name prefix i.name) } in
      let both = both_are (inner_flats expand bs (inner_name name prefix i.name) (dotted prefix i.name) i.written) (body_flats expand name prefix (bs ++ more ∷ []) is) fs e in
      subst FlatsInRange both.joined
      (each_append (λ (f : Flat). HasRanges f.op) both.front both.rest
      (inner_ranges bs (inner_name name prefix i.name) (dotted prefix i.name) i.written both.front bound h.0 both.first)
      (body_ranges name prefix (bs ++ more ∷ []) is both.rest (each_append (λ (b : Binding). IsInRange b.term) bs (more ∷ []) bound (tt, tt)) h.1 both.second))

abbrev BodiesInRange : List Procedure → Type 0
BodiesInRange ps = ByRecursion (λ (p : Procedure). BodyInRange p.body) ps

found_ranges : (ps : List Procedure) (p : Name) (q : Procedure) → BodiesInRange ps → find_procedure ps p ≡ Some q → BodyInRange q.body
found_ranges [] p q h e = absurd cc
found_ranges (x ∷ ps) p q h e =
    cond_both (bytes_eq x.name p) (Some x) (find_procedure ps p) (λ o. o ≡ Some q → BodyInRange q.body)
    (λ same is. subst (λ (r : Procedure). BodyInRange r.body) (same_Some x q is) h.0) (λ other. found_ranges ps p q h.1) e

call_ranges : (k : ℕ) (ps : List Procedure) → BodiesInRange ps → IsRanged (call_flats k ps)
call_ranges zero ps bodies name prefix p ts fs h e = absurd cc
call_ranges (suc k) ps bodies name prefix p ts fs h e = go (call_ranges k ps bodies) (called (find_procedure ps p) p ts) (called_is (find_procedure ps p) p ts) e
  where
    go : IsRanged (call_flats k ps) → (r : Result Procedure WrongCall) → ((q : Procedure) → r ≡ Ok q → find_procedure ps p ≡ Some q) → called_flats r (call_flats k ps) name prefix ts ≡ Ok fs → FlatsInRange fs
    go rest (Err w) is e = absurd cc
    go rest (Ok q) is e = body_ranges (call_flats k ps) rest name prefix (given_for q.takes ts) q.body fs (given_ranges q.takes ts h) (found_ranges ps p q bodies (is q refl)) e

expansion_ranges : (ps : List Procedure) (n : Name) (w : Written) (fs : List Flat) → BodiesInRange ps → WrittenInRange w → expansion_of ps n w ≡ Ok fs → FlatsInRange fs
unfolding expansion_of
expansion_ranges ps n (plain op) fs bodies h e = one_flat n op fs (expansion_of ps n (plain op)) h refl e
expansion_ranges ps n (call p ts) fs bodies h e = call_ranges (length ps) ps bodies n n p ts fs h e

-- ---- formed procedures

inner_formed : (ns : List Text) (is : List Inner) → AreInner ns is → BodyInRange is
inner_formed ns [] h = tt
inner_formed ns (i ∷ is) h = (written_ranges i.written h.1.0, inner_formed (ns ++ i.name ∷ []) is h.2)

body_formed : (ps : List Text) (body : List Inner) → IsBody ps body → BodyInRange body
body_formed ps body h =
    subst BodyInRange (sym h.whole) (each_append (λ (i : Inner). WrittenInRange i.written) h.before (record { name = codes "result"; written = h.last } ∷ []) (inner_formed ps h.before h.inner) (written_ranges h.last h.result.0, tt))

held_ranges : (fs : List held.Flat) → FlatsInRange (flats_view fs) → ByRecursion (λ (f : held.Flat). HasRanges (op_view f.op)) fs
held_ranges [] h = tt
held_ranges (f ∷ fs) h = (h.0, held_ranges fs h.1)

pub ranged_flats : (ps : List Procedure) (n : Name) (w : Written) (fs : List held.Flat) → All IsProcedure ps → IsWritten w → expansion_of ps n w ≡ Ok (flats_view fs) → All (λ (f : held.Flat). HasRanges (op_view f.op)) fs
ranged_flats ps n w fs procedures formed e =
    let bodies = each_more IsProcedure (λ (p : Procedure). BodyInRange p.body) (λ p h. body_formed p.takes p.body h.body) ps (recursion_from_All IsProcedure ps procedures) in
    All-from_recursion (λ (f : held.Flat). HasRanges (op_view f.op)) fs (held_ranges fs (expansion_ranges ps n w (flats_view fs) bodies (written_ranges w formed) e))
