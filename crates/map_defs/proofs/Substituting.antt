-- What a body's terms name, once they stand for what is bound.
use Rattle.std.proofs.Common.{Bool, true, false, cond, List, [], ◌∷◌, ◌++◌, map, flat_map, bytes_eq, inl}
use Rattle.map_defs.specs.Ops.{Name, Term, layer_term, number_term, Op, term_names, needs_of}
use Rattle.map_defs.specs.Statements.{Flat}
use Rattle.map_defs.specs.Bindings.{Binding, named_term, term_with, op_with, given_for}
use Rattle.map_defs.specs.FlatNames.{Each, IsMet}
use Rattle.map_defs.specs.MadeProcedures.{IsUndotted}
use Rattle.map_defs.proofs.FlatNames.{each_join, each_front, each_rest, each_more, after, met_after}

-- what is bound names what is met
abbrev pub AreBound : List Name → List Binding → Type 0
AreBound known [] = Unit {0}
AreBound known (b ∷ bs) = Each (IsMet known) (term_names b.term) × AreBound known bs

pub bound_after : (known : List Name) (fs : List Flat) (bs : List Binding) → AreBound known bs → AreBound (after known fs) bs
bound_after known fs [] h = tt
bound_after known fs (b ∷ bs) h = (each_more (IsMet known) (IsMet (after known fs)) (met_after known fs) (term_names b.term) h.0, bound_after known fs bs h.1)

pub bound_more : (known : List Name) (bs : List Binding) (b : Binding) → AreBound known bs → Each (IsMet known) (term_names b.term) → AreBound known (bs ++ b ∷ [])
bound_more known [] b h more = (more, tt)
bound_more known (c ∷ bs) b h more = (h.0, bound_more known bs b h.1 more)

module _ (known : List Name) where
  abbrev AreTermsMet : List Term → Type 0
  AreTermsMet ts = Each (IsMet known) (flat_map term_names ts)

  named_met : (bs : List Binding) → AreBound known bs → (n : Name) → IsUndotted n → Each (IsMet known) (term_names (named_term bs n))
  named_met [] h n plain = (inl plain, tt)
  named_met (b ∷ bs) h n plain = go (bytes_eq b.name n) (named_met bs h.1 n plain)
    where
      go : (o : Bool) → Each (IsMet known) (term_names (named_term bs n)) → Each (IsMet known) (term_names (cond o b.term (named_term bs n)))
      go true later = h.0
      go false later = later

  term_met : (bs : List Binding) → AreBound known bs → (t : Term) → Each IsUndotted (term_names t) → Each (IsMet known) (term_names (term_with bs t))
  term_met bs h (layer_term n) plain = named_met bs h n plain.0
  term_met bs h (number_term z) plain = tt

  pub terms_met : (bs : List Binding) → AreBound known bs → (ts : List Term) → Each IsUndotted (flat_map term_names ts) → AreTermsMet (map (term_with bs) ts)
  terms_met bs h [] plain = tt
  terms_met bs h (t ∷ ts) plain =
      each_join (IsMet known) (term_names (term_with bs t)) (flat_map term_names (map (term_with bs) ts))
      (term_met bs h t (each_front IsUndotted (term_names t) (flat_map term_names ts) plain))
      (terms_met bs h ts (each_rest IsUndotted (term_names t) (flat_map term_names ts) plain))

  pub op_met : (bs : List Binding) → AreBound known bs → (op : Op) → Each IsUndotted (needs_of op) → Each (IsMet known) (needs_of (op_with bs op))
  op_met bs h op plain = terms_met bs h op.terms plain

  pub given_bound : (ns : List Name) (ts : List Term) → AreTermsMet ts → AreBound known (given_for ns ts)
  given_bound [] ts h = tt
  given_bound (n ∷ ns) [] h = tt
  given_bound (n ∷ ns) (t ∷ ts) h = (
    each_front (IsMet known) (term_names t) (flat_map term_names ts) h,
    given_bound ns ts (each_rest (IsMet known) (term_names t) (flat_map term_names ts) h),
  )
