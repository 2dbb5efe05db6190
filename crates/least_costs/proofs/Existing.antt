-- Each place of a net has a least cost.
--
-- Rounds that no longer change a value give values that agree with their equations; rounds lower the sum of the values, so
-- they come to that.
use Rattle.std.proofs.Common.{◌≡◌, ◌⊎◌, inl, inr, ℕ, zero, suc, ◌+◌, ◌<◌, ◌≤◌, List, [], ◌∷◌, sym, subst, arith}
use Rattle.std.proofs.lemmas.Bool.{cases_lt}
use Rattle.map_defs.specs.Nets.{Net, IsClosed, HasCosts, cost_in, IsLeastIn, IsEquation}
use Rattle.map_defs.specs.Rounds.{value_in, rounds}
use Rattle.map_defs.proofs.Nets.{agreeing_least}
use Rattle.map_defs.proofs.Rounds.{IsLeastWithin, rounds_are}
use Rattle.least_costs.specs.Ranks.{sum_to}

-- ---- values that only fall stop falling

sum_below : (a b : ℕ → ℕ) (n : ℕ) → ((i : ℕ) → b i ≤ a i) → sum_to b n ≤ sum_to a n
sum_below a b zero h = omega arith
sum_below a b (suc n) h = omega (arith, h n, sum_below a b n h)

pub all_or : (a b : ℕ → ℕ) (n : ℕ) → ((i : ℕ) → b i ≤ a i) → ((i : ℕ) → i < n → b i ≡ a i) ⊎ (sum_to b n + 1 ≤ sum_to a n)
all_or a b zero h = inl (λ i l. absurd (omega (arith, l)))
all_or a b (suc n) h = elim (cases_lt (b n) (a n)) as (λ _. ((i : ℕ) → i < suc n → b i ≡ a i) ⊎ (sum_to b (suc n) + 1 ≤ sum_to a (suc n))) [
  | inl l ↦ inr (omega (arith, l, sum_below a b n h))
  | inr l ↦ elim (all_or a b n h) as (λ _. ((i : ℕ) → i < suc n → b i ≡ a i) ⊎ (sum_to b (suc n) + 1 ≤ sum_to a (suc n))) [
    | inl e ↦ inl (λ i m. elim (cases_lt i n) as (λ _. b i ≡ a i) [ inl p ↦ e i p | inr p ↦ (let q : i ≡ n = omega (arith, m, p) in let P : ℕ → Type 0 = λ j. b j ≡ a j in subst P (sym q) (omega (arith, l, h n))) ])
    | inr s ↦ inr (omega (arith, s, h n))
  ]
]

module _ (g : Net) (closed : IsClosed g) where
  abbrev at_round : ℕ → ℕ → ℕ
  at_round k i = value_in g (rounds k g) i

  is : (k i : ℕ) → IsLeastWithin g k i (at_round k i)
  is k i = rounds_are g closed k i

  falls : (k i : ℕ) → at_round (suc k) i ≤ at_round k i
  falls k i = elim (cases_lt (at_round k i) g.top) as (λ _. at_round (suc k) i ≤ at_round k i) [
    | inl l ↦ (let r = (is k i).reached l in omega (arith, (is (suc k) i).least r.0 (omega (arith, r.1)), r.2))
    | inr l ↦ omega (arith, (is (suc k) i).capped, l)
  ]

  pub record IsStable (k : ℕ) : Type 0 where
    pub same : (i : ℕ) → i < g.size → at_round (suc k) i ≡ at_round k i

  stable : (fuel k : ℕ) → sum_to (at_round k) g.size ≤ fuel → (m : ℕ) × IsStable m
  stable zero k h = elim (all_or (at_round k) (at_round (suc k)) g.size (falls k)) as (λ _. (m : ℕ) × IsStable m) [ inl e ↦ (k, record { same = e }) | inr s ↦ absurd (omega (arith, h, s)) ]
  stable (suc fuel) k h = elim (all_or (at_round k) (at_round (suc k)) g.size (falls k)) as (λ _. (m : ℕ) × IsStable m) [ inl e ↦ (k, record { same = e }) | inr s ↦ stable fuel (suc k) (omega (arith, h, s)) ]

  module _ (k : ℕ) (s : IsStable k) where
    stepped : (i j : ℕ) → at_round k i ≤ at_round k j + g.step j i
    stepped i j = elim (cases_lt i g.size) as (λ _. at_round k i ≤ at_round k j + g.step j i) [
      | inr l ↦ omega (arith, (is k i).capped, closed.steps_within j i l)
      | inl l ↦ elim (cases_lt (at_round k j) g.top) as (λ _. at_round k i ≤ at_round k j + g.step j i) [
        | inl m ↦ (let r = (is k j).reached m in omega (arith, s.same i l, (is (suc k) i).least (j ∷ r.0) (omega (arith, r.1)), r.2))
        | inr m ↦ omega (arith, m, (is k i).capped)
      ]
    ]

    least : (i : ℕ) (js : List ℕ) → at_round k i ≤ cost_in g i js
    least i [] = (is k i).least [] (omega arith)
    least i (j ∷ js) = omega (arith, stepped i j, least j js)

    attained : (i : ℕ) (js : List ℕ) → cost_in g i js ≡ at_round k i → (at_round k i ≡ g.base i) ⊎ ((j : ℕ) × (at_round k i ≡ at_round k j + g.step j i))
    attained i [] e = inl (sym e)
    attained i (j ∷ js) e = inr (j, omega (arith, e, least j js, stepped i j))

    agrees : (i : ℕ) → IsEquation g (at_round k) i (at_round k i)
    agrees i = record {
      capped = (is k i).capped;
      begun = least i [];
      stepped = stepped i;
      attained = elim (cases_lt (at_round k i) g.top) as (λ _. (at_round k i ≡ g.top) ⊎ ((at_round k i ≡ g.base i) ⊎ ((j : ℕ) × (at_round k i ≡ at_round k j + g.step j i))))
          [ inl l ↦ (let r = (is k i).reached l in inr (attained i r.0 r.2)) | inr l ↦ inl (omega (arith, (is k i).capped, l)) ];
    }

  pub record HasLeast : Type 0 where
    pub value : ℕ → ℕ
    pub least_in : (i : ℕ) → IsLeastIn g i (value i)

  -- each place has a least cost
  pub has_least : HasCosts g → HasLeast
  has_least costs = let r = stable (sum_to (at_round 0) g.size) 0 (omega arith) in record { value = at_round r.0; least_in = agreeing_least g (at_round r.0) closed costs (agrees r.0 r.1) }
