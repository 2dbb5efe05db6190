-- The least put out of range is the least cell whose flow is.
use Rattle.std.proofs.Common.{◌≡◌, ℕ, zero, suc, ◌<◌, ◌≤◌, min, Bool, true, false, cond, not, eqb, List, [], ◌∷◌, Option, Some, None, refl, sym, ◌∙◌, ap, subst, arith, inl, inr, ℤ}
use Rattle.std.specs.Prelude.{◌⊎◌, IsTrue, IsFalse}
use Rattle.std.specs.List.{Contains, fold}
use Rattle.std.proofs.lemmas.Bool.{cases_lt, cases_Bool}
use Rattle.std.proofs.lemmas.Bool.Decides.{nat_tests}
use Rattle.map_nums.specs.Numbers.{is_value}
use Rattle.map_nums.specs.Answers.{is_wide}
use Rattle.map_nums.specs.Grids.{Size, Cells, cell_at, cells_in}
use Rattle.map_defs.specs.Flow.{flow_at}
use Rattle.layer_tiles.specs.Cells.{IsCell}
use Rattle.drainage_flow.specs.FlowNets.{number_of, flow_number}
use Rattle.drainage_flow.specs.Settling.{number_at, AreCells, AreNewFlows}
use Rattle.drainage_flow.specs.Overflows.{lesser, lesser_out, least_out, IsLeastWideFlow, IsOverflow}

-- what is least so far stays or falls
stays : (b : ℕ) (puts : List (ℕ × ℤ)) → (a : ℕ) × (fold lesser_out (Some b) puts ≡ Some a) × (a ≤ b)
stays b [] = (b, refl, omega arith)
stays b (p ∷ ps) = elim (cases_Bool (is_value p.1)) as (λ _. (a : ℕ) × (fold lesser_out (cond (is_value p.1) (Some b) (Some (min b p.0))) ps ≡ Some a) × (a ≤ b)) [
  | inl t ↦ (let r = stays b ps in (r.0, ap (λ u. fold lesser_out (cond u (Some b) (Some (min b p.0))) ps) t ∙ r.1, r.2))
  | inr t ↦ (let r = stays (min b p.0) ps in (r.0, ap (λ u. fold lesser_out (cond u (Some b) (Some (min b p.0))) ps) t ∙ r.1, omega (arith, r.2)))
]

lesser_le : (o : Option ℕ) (b : ℕ) → lesser o b ≤ b
lesser_le None b = omega arith
lesser_le (Some a) b = omega arith

-- no put out of range is below the least one
pub least_below : (before : Option ℕ) (puts : List (ℕ × ℤ)) (p : ℕ × ℤ) → Contains puts p → is_value p.1 ≡ false → (a : ℕ) × (fold lesser_out before puts ≡ Some a) × (a ≤ p.0)
least_below before [] p h f = absurd (omega (arith, h.1))
least_below before (q ∷ ps) p (zero, l, e) f =
    let out : is_value q.1 ≡ false = ap (λ (x : ℕ × ℤ). is_value x.1) e ∙ f in
    let r = stays (lesser before q.0) ps in
    let same : q.0 ≡ p.0 = ap (λ (x : ℕ × ℤ). x.0) e in
    (r.0, ap (λ t. fold lesser_out (cond t before (Some (lesser before q.0))) ps) out ∙ r.1, omega (arith, r.2, lesser_le before q.0, same))
least_below before (q ∷ ps) p (suc i, l, e) f = least_below (lesser_out before q) ps p (i, omega (arith, l), e) f

-- and the least one is a put
pub least_from : (before : Option ℕ) (puts : List (ℕ × ℤ)) (a : ℕ) → fold lesser_out before puts ≡ Some a → (before ≡ Some a) ⊎ ((z : ℤ) × Contains puts (a, z) × (is_value z ≡ false))
least_from before [] a e = inl e
least_from before (q ∷ ps) a e = elim (least_from (lesser_out before q) ps a e) as (λ _. (before ≡ Some a) ⊎ ((z : ℤ) × Contains (q ∷ ps) (a, z) × (is_value z ≡ false))) [
  | inr h ↦ inr (h.0, (suc h.1.0, omega (arith, h.1.1), h.1.2), h.2)
  | inl h ↦ from_or (is_value q.1) refl h
]
  where
    here : q.0 ≡ a → is_value q.1 ≡ false → (before ≡ Some a) ⊎ ((z : ℤ) × Contains (q ∷ ps) (a, z) × (is_value z ≡ false))
    here k f = inr (q.1, (0, omega arith, ap (λ (x : ℕ). let y : ℕ × ℤ = (x, q.1) in y) k), f)

    of_some : (o : Option ℕ) → before ≡ o → is_value q.1 ≡ false → Some (lesser o q.0) ≡ Some a → (before ≡ Some a) ⊎ ((z : ℤ) × Contains (q ∷ ps) (a, z) × (is_value z ≡ false))
    of_some None b f h = let k : q.0 ≡ a = cc in here k f
    of_some (Some m) b f h =
        let k : min m q.0 ≡ a = cc in
        elim (cases_lt q.0 m) as (λ _. (before ≡ Some a) ⊎ ((z : ℤ) × Contains (q ∷ ps) (a, z) × (is_value z ≡ false))) [
          | inl l ↦ here (omega (arith, k, l)) f
          | inr l ↦ (let n : m ≡ a = omega (arith, k, l) in inl (b ∙ ap (λ (x : ℕ). let y : Option ℕ = Some x in y) n))
        ]

    from_or : (t : Bool) → is_value q.1 ≡ t → cond t before (Some (lesser before q.0)) ≡ Some a → (before ≡ Some a) ⊎ ((z : ℤ) × Contains (q ∷ ps) (a, z) × (is_value z ≡ false))
    from_or true f h = inl h
    from_or false f h = of_some before refl f h

-- a place has its old value or one that was put
put_from : (old : ℕ → ℤ) (puts : List (ℕ × ℤ)) (v : ℤ) (c : ℕ) → (fold (λ (z : ℤ) (p : ℕ × ℤ). cond (eqb p.0 c) p.1 z) v puts ≡ v) ⊎ ((p : ℕ × ℤ) × Contains puts p × (p.0 ≡ c) × (fold (λ (z : ℤ) (p : ℕ × ℤ). cond (eqb p.0 c) p.1 z) v puts ≡ p.1))
put_from old [] v c = inl refl
put_from old (q ∷ ps) v c = elim (put_from old ps (cond (eqb q.0 c) q.1 v) c) as (λ _. (fold (λ (z : ℤ) (p : ℕ × ℤ). cond (eqb p.0 c) p.1 z) (cond (eqb q.0 c) q.1 v) ps ≡ v) ⊎ ((p : ℕ × ℤ) × Contains (q ∷ ps) p × (p.0 ≡ c) × (fold (λ (z : ℤ) (p : ℕ × ℤ). cond (eqb p.0 c) p.1 z) (cond (eqb q.0 c) q.1 v) ps ≡ p.1))) [
  | inr h ↦ inr (h.0, (suc h.1.0, omega (arith, h.1.1), h.1.2), h.2, h.3)
  | inl h ↦ elim (cases_Bool (eqb q.0 c)) as (λ _. (fold (λ (z : ℤ) (p : ℕ × ℤ). cond (eqb p.0 c) p.1 z) (cond (eqb q.0 c) q.1 v) ps ≡ v) ⊎ ((p : ℕ × ℤ) × Contains (q ∷ ps) p × (p.0 ≡ c) × (fold (λ (z : ℤ) (p : ℕ × ℤ). cond (eqb p.0 c) p.1 z) (cond (eqb q.0 c) q.1 v) ps ≡ p.1))) [
    | inl t ↦ inr (q, (0, omega arith, refl), grind (arith, nat_tests), h ∙ ap (λ b. cond b q.1 v) t)
    | inr t ↦ inl (h ∙ ap (λ b. cond b q.1 v) t)
  ]
]

pub wide_is : (o : Option ℤ) → is_wide o ≡ not (is_value (number_of o))
wide_is None = refl
wide_is (Some z) = refl

pub cell_value : (o : Option ℤ) → IsCell o → is_value (number_of o) ≡ true
cell_value None h = refl
cell_value (Some z) h = h

module _ (s : Size) (surface weights old : Cells) (puts : List (ℕ × ℤ)) (cells : AreCells old) (new : AreNewFlows s surface weights old puts) where
  flow_is_wide : (c : ℕ) → is_wide (flow_at s surface weights c) ≡ not (is_value (flow_number s surface weights c))
  unfolding flow_number
  flow_is_wide c = wide_is (flow_at s surface weights c)

  -- a flow out of range was put
  wide_put : (c : ℕ) → c < cells_in s → is_value (flow_number s surface weights c) ≡ false → (p : ℕ × ℤ) × Contains puts p × (p.0 ≡ c) × (is_value p.1 ≡ false)
  wide_put c l f = elim (put_from (number_at old) puts (number_at old c) c) as (λ _. (p : ℕ × ℤ) × Contains puts p × (p.0 ≡ c) × (is_value p.1 ≡ false)) [
    | inl h ↦ (let k : is_value (flow_number s surface weights c) ≡ true = ap is_value (sym (new.makes c l) ∙ h) ∙ cell_value (cell_at old c) (cells c) in let q : true ≡ false = sym k ∙ f in absurd (cc))
    | inr h ↦ (h.0, h.1, h.2, ap is_value (sym h.3 ∙ new.makes c l) ∙ f)
  ]

  narrow : (c : ℕ) → ((is_value (flow_number s surface weights c) ≡ false) → ⊥) → IsFalse (is_wide (flow_at s surface weights c))
  narrow c h = elim (cases_Bool (is_value (flow_number s surface weights c))) as (λ _. IsFalse (is_wide (flow_at s surface weights c))) [
    | inl t ↦ subst IsFalse (sym (flow_is_wide c ∙ ap not t)) refl
    | inr t ↦ absurd (h t)
  ]

  pub overflow_is : (r : Option ℕ) → least_out puts ≡ r → IsOverflow s surface weights r
  overflow_is None e = λ i l. narrow i (λ f. (let w = wide_put i l f in let b = least_below None puts w.0 w.1 w.3 in let q : None ≡ Some b.0 = sym e ∙ b.1 in absurd (cc)))
  overflow_is (Some at) e = found (least_from None puts at e)
    where
      found : (None ≡ Some at) ⊎ ((z : ℤ) × Contains puts (at, z) × (is_value z ≡ false)) → IsLeastWideFlow s surface weights at
      found (inl q) = absurd (cc)
      found (inr h) = record {
        within = (new.placed (at, h.0) h.1).0;
        wide = subst IsTrue (sym (flow_is_wide at ∙ ap (λ z. not (is_value z)) (sym (new.placed (at, h.0) h.1).1) ∙ ap not h.2)) refl;
        least = λ i l. narrow i (λ f. (
            let w = wide_put i (omega (arith, l, (new.placed (at, h.0) h.1).0)) f in
            let b = least_below None puts w.0 w.1 w.3 in
            let q : Some at ≡ Some b.0 = sym e ∙ b.1 in
            let k : at ≡ b.0 = cc in
            omega (arith, b.2, w.2, k, l)));
      }
