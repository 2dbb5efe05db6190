-- Values that only fall.
--
-- A value is what a path costs, and falls where a step gives less. Once the steps from each place were tried since its value fell, no
-- step gives less, so by induction along a path no path does. The order of the queue does not matter to that.
use Rattle.std.proofs.Common.{◌≡◌, ◌≢◌, ℕ, suc, ◌+◌, ◌<◌, ◌≤◌, List, [], ◌∷◌, refl, sym, ◌∙◌, ap, arith, inl, inr, subst}
use Rattle.std.specs.Prelude.{◌⊎◌}
use Rattle.std.specs.List.{Contains}
use Rattle.std.specs.List.Sorted.{IsPermutation}
use Rattle.std.proofs.lemmas.Bool.{cases_lt}
use Rattle.std.proofs.lemmas.List.Sorted.{Contains-permutation}
use Rattle.map_defs.specs.Nets.{Net, IsClosed, HasCosts, cost_in, IsLeastIn, IsEquation}
use Rattle.map_defs.proofs.Nets.{agreeing_least}
use Rattle.least_costs.specs.Queue.{IsSetTo, IsKept}
use Rattle.least_costs.specs.Filling.{IsRelaxed, IsFilling, IsOffering}
use Rattle.least_costs.proofs.Equations.{same_or}
use Rattle.least_costs.proofs.Queues.{contains_front, pushed_kept, pushed_there, pushed_length}
use Rattle.least_costs.proofs.Takes.{sum_rises}

-- ---- entries

contains_behind : (x y : ℕ × ℕ) (xs : List (ℕ × ℕ)) → Contains xs x → Contains (y ∷ xs) x
contains_behind x y xs h = (suc h.0, omega (arith, h.1), h.2)

kept_behind : (x : ℕ × ℕ) (a b : List (ℕ × ℕ)) → IsKept a b → IsKept (x ∷ a) (x ∷ b)
kept_behind x a b kept y h = elim (contains_front y x a h) as (λ _. Contains (x ∷ b) y) [ inl e ↦ (0, omega arith, sym e) | inr m ↦ contains_behind y x b (kept y m) ]

-- ---- a value falls

fallen : (d d' : ℕ → ℕ) (i v : ℕ) → v ≤ d i → IsSetTo d i v d' → (k : ℕ) → d' k ≤ d k
fallen d d' i v l set k = elim (same_or k i) as (λ _. d' k ≤ d k) [
  | inl e ↦ (let P : ℕ → Type 0 = λ j. d' j ≤ d j in subst P (sym e) (omega (arith, set.here, l)))
  | inr n ↦ omega (arith, set.other k n)
]

pub relaxed_still : (g : Net) (d d' : ℕ → ℕ) (c i : ℕ) → ((k : ℕ) → d' k ≤ d k) → d' c ≡ d c → IsRelaxed g d c i → IsRelaxed g d' c i
relaxed_still g d d' c i falls e h s = omega (arith, falls i, e, h s)

module _ (g : Net) (d d' : ℕ → ℕ) (entries entries' : List (ℕ × ℕ)) (i v : ℕ) (js : List ℕ) (costs : cost_in g i js ≡ v) (low : v ≤ d i) (set : IsSetTo d i v d') (kept : IsKept entries entries') (there : Contains entries' (v, i)) (now : IsFilling g d entries) where
  still_tried : (k : ℕ) → k ≢ i → d' k < g.top → Contains entries' (d' k, k) ⊎ ((j : ℕ) → IsRelaxed g d' k j)
  still_tried k n m =
      let e = set.other k n in
      elim (now.tried k (omega (arith, e, m))) as (λ _. Contains entries' (d' k, k) ⊎ ((j : ℕ) → IsRelaxed g d' k j)) [
        | inl h ↦ inl (let P : ℕ → Type 0 = λ x. Contains entries' (x, k) in subst P (sym e) (kept (d k, k) h))
        | inr r ↦ inr (λ j. relaxed_still g d d' k j (fallen d d' i v low set) e (r j))
      ]

  tried_here : Contains entries' (d' i, i)
  tried_here = let P : ℕ → Type 0 = λ x. Contains entries' (x, i) in subst P (sym set.here) there

  -- to what a path costs, and its place comes into the queue
  pub lowered : IsFilling g d' entries'
  lowered = record {
    most = λ k. omega (arith, fallen d d' i v low set k, now.most k);
    reached = λ k m. elim (same_or k i) as (λ _. (js : List ℕ) × (cost_in g k js ≡ d' k)) [
      | inl e ↦ (let P : ℕ → Type 0 = λ j. (js : List ℕ) × (cost_in g j js ≡ d' j) in subst P (sym e) (js, costs ∙ sym set.here))
      | inr n ↦ (let r = now.reached k (omega (arith, set.other k n, m)) in (r.0, r.1 ∙ sym (set.other k n)))
    ];
    tried = λ k m. elim (same_or k i) as (λ _. Contains entries' (d' k, k) ⊎ ((j : ℕ) → IsRelaxed g d' k j)) [
      | inl e ↦ inl (let P : ℕ → Type 0 = λ j. Contains entries' (d' j, j) in subst P (sym e) tried_here)
      | inr n ↦ still_tried k n m
    ];
  }

-- ---- costs through a place

pub offered_none : (g : Net) (v c : ℕ) (d : ℕ → ℕ) (entries : List (ℕ × ℕ)) → IsOffering g v c d entries d entries
offered_none g v c d entries = record { falls = λ k. omega arith; here = refl; filling = λ h. h; less = omega arith }

pub offered_then : (g : Net) (v c : ℕ) (d : ℕ → ℕ) (entries : List (ℕ × ℕ)) (d' : ℕ → ℕ) (entries' : List (ℕ × ℕ)) (d'' : ℕ → ℕ) (entries'' : List (ℕ × ℕ)) → IsOffering g v c d entries d' entries' → IsOffering g v c d' entries' d'' entries'' → IsOffering g v c d entries d'' entries''
offered_then g v c d entries d' entries' d'' entries'' p q = record { falls = λ k. omega (arith, p.falls k, q.falls k); here = q.here ∙ p.here; filling = λ h. q.filling (p.filling h); less = omega (arith, p.less, q.less) }

-- one that is below its place's value
pub offered : (g : Net) (v c i w : ℕ) (d d' : ℕ → ℕ) (old new : List (ℕ × ℕ)) → i < g.size → c ≢ i → d c ≡ v → w ≡ v + g.step c i → w < d i → IsSetTo d i w d' → IsPermutation ((w, i) ∷ old) new → IsOffering g v c d old d' new
offered g v c i w d d' old new within other value cost below set pushed = record {
  falls = fallen d d' i w (omega (arith, below)) set;
  here = set.other c other;
  filling = λ h.
      let r = h.reached c (omega (arith, value, cost, below, h.most i)) in
      lowered g d d' ((v, c) ∷ old) ((v, c) ∷ new) i w (c ∷ r.0) (omega (arith, r.1, value, cost)) (omega (arith, below)) set (kept_behind (v, c) old new (pushed_kept (w, i) old new pushed)) (contains_behind (w, i) (v, c) new (pushed_there (w, i) old new pushed)) h;
  less = omega (arith, sum_rises d' d g.size i within (λ j n. sym (set.other j n)) (omega (arith, set.here, below)), pushed_length (w, i) old new pushed);
}

-- ---- an entry is taken out

pub taken_out : (g : Net) (d : ℕ → ℕ) (old : List (ℕ × ℕ)) (x : ℕ × ℕ) (left : List (ℕ × ℕ)) → IsPermutation old (x ∷ left) → IsFilling g d old → IsFilling g d (x ∷ left)
taken_out g d old x left p h = record {
  most = h.most;
  reached = h.reached;
  tried = λ k m. elim (h.tried k m) as (λ _. Contains (x ∷ left) (d k, k) ⊎ ((i : ℕ) → IsRelaxed g d k i)) [ inl c ↦ inl (Contains-permutation old (x ∷ left) (d k, k) p c) | inr r ↦ inr r ];
}

-- and done with: it is not its place's value, or the steps from there were tried
pub done_with : (g : Net) (d : ℕ → ℕ) (key at : ℕ) (left : List (ℕ × ℕ)) → (d at ≡ key → (i : ℕ) → IsRelaxed g d at i) → IsFilling g d ((key, at) ∷ left) → IsFilling g d left
done_with g d key at left relaxed h =
    let P : ℕ → Type 0 = λ j. d j ≡ key → (i : ℕ) → IsRelaxed g d j i in
    record {
      most = h.most;
      reached = h.reached;
      tried = λ k m. elim (h.tried k m) as (λ _. Contains left (d k, k) ⊎ ((i : ℕ) → IsRelaxed g d k i)) [
        | inl c ↦ elim (contains_front (d k, k) (key, at) left c) as (λ _. Contains left (d k, k) ⊎ ((i : ℕ) → IsRelaxed g d k i)) [
          | inl e ↦ inr (subst P (sym (ap (λ (x : ℕ × ℕ). x.1) e)) relaxed (ap (λ (x : ℕ × ℕ). x.0) e))
          | inr r ↦ inl r
        ]
        | inr r ↦ inr r
      ];
    }

-- ---- the queue is empty

module _ (g : Net) (closed : IsClosed g) (costs : HasCosts g) (d : ℕ → ℕ) (entries : List (ℕ × ℕ)) (now : IsFilling g d entries) (begun : (i : ℕ) → d i ≤ g.base i) (empty : entries ≡ []) where
  relaxed : (c : ℕ) → d c < g.top → (i : ℕ) → IsRelaxed g d c i
  relaxed c m = elim (now.tried c m) as (λ _. (i : ℕ) → IsRelaxed g d c i) [
    | inl h ↦ (let P : List (ℕ × ℕ) → Type 0 = λ xs. Contains xs (d c, c) in let n = subst P empty h in absurd (omega (arith, n.1)))
    | inr r ↦ r
  ]

  stepped : (i j : ℕ) → d i ≤ d j + g.step j i
  stepped i j = elim (cases_lt (d j) g.top) as (λ _. d i ≤ d j + g.step j i) [
    | inr l ↦ omega (arith, now.most i, l)
    | inl l ↦ elim (cases_lt (g.step j i) g.top) as (λ _. d i ≤ d j + g.step j i) [ inl s ↦ relaxed j l i s | inr s ↦ omega (arith, now.most i, s) ]
  ]

  covered : (i : ℕ) (js : List ℕ) → d i ≤ cost_in g i js
  covered i [] = begun i
  covered i (j ∷ js) = omega (arith, stepped i j, covered j js)

  attained : (i : ℕ) (js : List ℕ) → cost_in g i js ≡ d i → (d i ≡ g.base i) ⊎ ((j : ℕ) × (d i ≡ d j + g.step j i))
  attained i [] e = inl (sym e)
  attained i (j ∷ js) e = inr (j, omega (arith, e, covered j js, stepped i j))

  agrees : (i : ℕ) → IsEquation g d i (d i)
  agrees i = record {
    capped = now.most i;
    begun = begun i;
    stepped = stepped i;
    attained = elim (cases_lt (d i) g.top) as (λ _. (d i ≡ g.top) ⊎ ((d i ≡ g.base i) ⊎ ((j : ℕ) × (d i ≡ d j + g.step j i))))
        [ inl l ↦ (let r = now.reached i l in inr (attained i r.0 r.1)) | inr l ↦ inl (omega (arith, now.most i, l)) ];
  }

  -- all values are least costs
  pub filled_least : (i : ℕ) → IsLeastIn g i (d i)
  filled_least = agreeing_least g d closed costs agrees
