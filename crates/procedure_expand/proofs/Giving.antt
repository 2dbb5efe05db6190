-- One parameter more with its term.
use Rattle.std.proofs.Common.{◌≡◌, ℕ, zero, suc, ◌+◌, ◌<◌, List, [], ◌∷◌, ◌++◌, length, take, get_or, refl, ap, subst, arith}
use Rattle.std.proofs.lemmas.List.{take-map, get_or-map, length-map}
use Rattle.map_defs.specs.Ops.{Name, Term}
use Rattle.map_defs.specs.Bindings.{given_for}
use Rattle.statement_parser.specs.declared.op.Term as held
use Rattle.statement_parser.specs.Views.{term_view, terms_view}

given_suc : (ns : List Name) (ts : List Term) (i : ℕ) (n : Name) (t : Term) → i < length ns → i < length ts →
    given_for (take (suc i) ns) (take (suc i) ts) ≡ given_for (take i ns) (take i ts) ++ record { name = get_or ns i n; term = get_or ts i t } ∷ []
given_suc [] ts i n t h k = absurd (omega arith)
given_suc (m ∷ ns) [] i n t h k = absurd (omega arith)
given_suc (m ∷ ns) (u ∷ ts) zero n t h k = refl
given_suc (m ∷ ns) (u ∷ ts) (suc i) n t h k =
    let a : i < length ns = omega arith in
    let b : i < length ts = omega arith in
    ap (λ q. record { name = m; term = u } ∷ q) (given_suc ns ts i n t a b)

pub given_more : (ns : List Name) (ts : List held.Term) (i : ℕ) (n : Name) (t : held.Term) → i < length ns → i < length ts →
    given_for (take (i + 1) ns) (terms_view (take (i + 1) ts)) ≡ given_for (take i ns) (terms_view (take i ts)) ++ record { name = get_or ns i n; term = term_view (get_or ts i t) } ∷ []
given_more ns ts i n t h k =
    let P : ℕ → Type 0 = λ j. given_for (take j ns) (terms_view (take j ts)) ≡ given_for (take i ns) (terms_view (take i ts)) ++ record { name = get_or ns i n; term = term_view (get_or ts i t) } ∷ [] in
    let one : suc i ≡ i + 1 = omega arith in
    let b : i < length (terms_view ts) = omega (arith, length-map ts term_view) in
    subst P one (rw (← take-map term_view (suc i) ts, ← take-map term_view i ts, ← get_or-map term_view ts i t (term_view t) k) (given_suc ns (terms_view ts) i n (term_view t) h b))
