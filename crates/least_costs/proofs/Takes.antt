-- What a take of the place with the least key does.
use Rattle.std.proofs.Common.{◌≡◌, ◌≢◌, ℕ, zero, suc, ◌+◌, ◌<◌, ◌≤◌, List, [], ◌∷◌, refl, sym, ◌∙◌, ap, arith, inl, inr}
use Rattle.std.specs.Prelude.{◌==◌, if◌then◌else◌}
use Rattle.std.specs.Int.{from_bool}
use Rattle.std.proofs.lemmas.Bool.{cases_lt}
use Rattle.std.proofs.lemmas.Bool.Decides.{nat_tests}
use Rattle.map_defs.specs.Nets.{Net, HasCosts, IsWithin, cost_in, equation}
use Rattle.least_costs.specs.Ranks.{sum_to, changed, arrives, arrived}
use Rattle.least_costs.specs.Best.{IsBest, Ranked, same, raised, least}
use Rattle.map_defs.proofs.Nets.{IsSettled, Reached, reached, beyond, equation_is}
use Rattle.least_costs.proofs.Moves.{sum_below}

-- ---- one place

arrives_same : (t o v : ℕ) → v ≡ o → arrives t o v ≡ 0
arrives_same t o v e = grind (arith, nat_tests)

arrives_top : (t o v : ℕ) → v ≡ t → arrives t o v ≡ 0
arrives_top t o v e = grind (arith, nat_tests)

arrives_least : (t o v : ℕ) → v < t → v ≢ o → arrives t o v ≡ 1
arrives_least t o v l n = grind (arith, nat_tests)

arrives_most : (t o v : ℕ) → arrives t o v ≤ (if o == v then 0 else 1)
arrives_most t o v = grind (arith, nat_tests)

leaves_first : (o v : ℕ) → v ≡ o → 1 ≤ from_bool (o == v)
leaves_first o v e = grind (arith, nat_tests)

-- a value fell, and is the least cost, or rose, for the first time
pub record Taken (g : Net) (i o v v' fell rose : ℕ) : Type 0 where
  pub ranked : Ranked g i o v'
  pub left : o ≢ v'
  pub one : fell + rose ≡ 1
  pub arrival : arrives g.top o v' ≡ arrives g.top o v + fell
  pub first : rose ≤ from_bool (o == v)

taken_above : (g : Net) (i o v k : ℕ) → k < v → k < g.top → IsBest g i k → Ranked g i o v → Taken g i o v k 1 0
taken_above g i o v k l t b (same e) =
    let n : k ≢ o = omega arith in
    record { ranked = least t n b; left = omega arith; one = refl; arrival = omega (arith, arrives_same g.top o v e, arrives_least g.top o k t n); first = omega arith }
taken_above g i o v k l t b (raised e h p) =
    let n : k ≢ o = omega (arith, p b.path, b.costs) in
    record { ranked = least t n b; left = omega arith; one = refl; arrival = omega (arith, arrives_top g.top o v e, arrives_least g.top o k t n); first = omega arith }
taken_above g i o v k l t b (least h n q) = absurd (omega (arith, q.least b.path, b.costs))

taken_below : (g : Net) (i o v : ℕ) → v < g.top → ((js : List ℕ) → v < cost_in g i js) → Ranked g i o v → Taken g i o v g.top 0 1
taken_below g i o v t p (same e) =
    let l : o < g.top = omega arith in
    record {
      ranked = raised refl l (λ js. let q = p js in omega arith);
      left = omega arith;
      one = refl;
      arrival = omega (arith, arrives_same g.top o v e, arrives_top g.top o g.top refl);
      first = leaves_first o v e;
    }
taken_below g i o v t p (raised e h q) = absurd (omega arith)
taken_below g i o v t p (least h n q) = absurd (omega (arith, p q.path, q.costs))

module _ (g : Net) (costs : HasCosts g) (d : ℕ → ℕ) (within : IsWithin g d) (k : ℕ) (settled : IsSettled g d k) where
  best_of : (i j : ℕ) → equation g d i ≡ k → k < g.top → k ≡ d j + g.step j i → Reached g d j → IsBest g i k
  best_of i j e t m r = record { least = λ js. elim (beyond g costs d within k settled js i) as (λ _. k ≤ cost_in g i js) [ inl h ↦ omega arith | inr h ↦ omega arith ]; path = j ∷ r.path; costs = (let c = r.costs in omega arith) }

  -- the equation of a cell with the least key, below its value, is its least cost
  pub best : (i : ℕ) → equation g d i ≡ k → k < g.top → IsBest g i k
  best i e t = elim ((equation_is g d within i).attained) as (λ _. IsBest g i k) [
    | inl h ↦ absurd (omega arith)
    | inr h ↦ elim h as (λ _. IsBest g i k) [
      | inl h ↦ record { least = λ js. elim (beyond g costs d within k settled js i) as (λ _. k ≤ cost_in g i js) [ inl h ↦ omega arith | inr h ↦ omega arith ]; path = []; costs = sym h ∙ e }
      | inr h ↦ (let s = costs h.0 i in let m : k ≡ d h.0 + g.step h.0 i = sym e ∙ h.1 in best_of i h.0 e t m (reached g costs d within k settled (suc (d h.0)) h.0 (omega arith) (omega arith)))
    ]
  ]

  -- a value with the least key, below its equation, is less than each path costs
  pub too_low : (i : ℕ) → d i ≡ k → k < equation g d i → (js : List ℕ) → d i < cost_in g i js
  too_low i e l js = elim (beyond g costs d within k settled js i) as (λ _. d i < cost_in g i js) [ inl h ↦ omega arith | inr h ↦ omega arith ]

  -- the take: a value above its equation becomes it, a value below becomes `top`
  pub take_above : (i o : ℕ) → equation g d i ≡ k → k < d i → d i ≤ g.top → Ranked g i o (d i) → Taken g i o (d i) k 1 0
  take_above i o e l c r = let t : k < g.top = omega arith in taken_above g i o (d i) k l t (best i e t) r

  pub take_below : (i o : ℕ) → d i ≡ k → k < equation g d i → Ranked g i o (d i) → Taken g i o (d i) g.top 0 1
  take_below i o e l r = let c = (equation_is g d within i).capped in taken_below g i o (d i) (omega arith) (too_low i e l) r

-- ---- all places

sum_same : (f f' : ℕ → ℕ) (n i : ℕ) → n ≤ i → ((j : ℕ) → j ≢ i → f' j ≡ f j) → sum_to f' n ≡ sum_to f n
sum_same f f' zero i h s = refl
sum_same f f' (suc n) i h s = let e : n ≢ i = omega arith in omega (arith, s n e, sum_same f f' n i (omega arith) s)

pub sum_rises : (f f' : ℕ → ℕ) (n i : ℕ) → i < n → ((j : ℕ) → j ≢ i → f' j ≡ f j) → f i + 1 ≤ f' i → sum_to f n + 1 ≤ sum_to f' n
sum_rises f f' zero i h s r = absurd (omega arith)
sum_rises f f' (suc n) i h s r = elim (cases_lt i n) as (λ _. (f n + sum_to f n) + 1 ≤ f' n + sum_to f' n) [
  | inl l ↦ (let e : n ≢ i = omega arith in omega (arith, s n e, sum_rises f f' n i l s r))
  | inr l ↦ (let e : i ≡ n = omega arith in let q : f n + 1 ≤ f' n = rw (e) at r in omega (arith, q, sum_same f f' n i l s))
]

sum_adds : (f f' : ℕ → ℕ) (n i k : ℕ) → i < n → ((j : ℕ) → j ≢ i → f' j ≡ f j) → f' i ≡ f i + k → sum_to f' n ≡ sum_to f n + k
sum_adds f f' zero i k h s r = absurd (omega arith)
sum_adds f f' (suc n) i k h s r = elim (cases_lt i n) as (λ _. f' n + sum_to f' n ≡ (f n + sum_to f n) + k) [
  | inl l ↦ (let e : n ≢ i = omega arith in omega (arith, s n e, sum_adds f f' n i k l s r))
  | inr l ↦ (let e : i ≡ n = omega arith in let q : f' n ≡ f n + k = rw (e) at r in omega (arith, q, sum_same f f' n i l s))
]

leaves_now : (o v v' : ℕ) → o ≢ v' → (if o == v' then 0 else 1) ≡ (if o == v then 0 else 1) + from_bool (o == v)
leaves_now o v v' n = grind (arith, nat_tests)

pub changed_moves : (o d d' : ℕ → ℕ) (n i : ℕ) → i < n → ((j : ℕ) → j ≢ i → d' j ≡ d j) → o i ≢ d' i → changed o d' n ≡ changed o d n + from_bool (o i == d i)
unfolding changed
changed_moves o d d' n i h s r = sum_adds (λ j. if o j == d j then 0 else 1) (λ j. if o j == d' j then 0 else 1) n i (from_bool (o i == d i)) h (λ j e. ap (λ x. if o j == x then 0 else 1) (s j e)) (leaves_now (o i) (d i) (d' i) r)

pub arrived_moves : (t : ℕ) (o d d' : ℕ → ℕ) (n i k : ℕ) → i < n → ((j : ℕ) → j ≢ i → d' j ≡ d j) → arrives t (o i) (d' i) ≡ arrives t (o i) (d i) + k → arrived t o d' n ≡ arrived t o d n + k
unfolding arrived
arrived_moves t o d d' n i k h s r = sum_adds (λ j. arrives t (o j) (d j)) (λ j. arrives t (o j) (d' j)) n i k h (λ j e. ap (λ x. arrives t (o j) x) (s j e)) r

-- a place that arrived has left
pub arrived_most : (t : ℕ) (o d : ℕ → ℕ) (n : ℕ) → arrived t o d n ≤ changed o d n
unfolding arrived changed
arrived_most t o d n = sum_below (λ j. arrives t (o j) (d j)) (λ j. if o j == d j then 0 else 1) n (λ j. arrives_most t (o j) (d j))

changed_below : (f : ℕ → ℕ) (n : ℕ) → ((j : ℕ) → f j ≤ 1) → sum_to f n ≤ n
changed_below f zero h = omega arith
changed_below f (suc n) h = omega (arith, h n, changed_below f n h)

one_most : (a b : ℕ) → (if a == b then 0 else 1) ≤ 1
one_most a b = grind (arith, nat_tests)

pub changed_most : (o d : ℕ → ℕ) (n : ℕ) → changed o d n ≤ n
unfolding changed
changed_most o d n = changed_below (λ j. if o j == d j then 0 else 1) n (λ j. one_most (o j) (d j))
