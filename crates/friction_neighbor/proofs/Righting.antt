-- Values are put right in the order of the costs: when a place is taken out of the queue, all places of lesser cost have the values that
-- are wanted, so the least that they bring it is the wanted one too.
use Rattle.std.proofs.Common.{◌≡◌, ◌≢◌, ℕ, zero, suc, ◌+◌, ◌<◌, ◌≤◌, ℤ, ◌≤ℤ◌, Bool, true, List, [], Option, Some, None, refl, sym, ◌∙◌, ap, subst, arith, inl, inr}
use Rattle.std.specs.Prelude.{◌⊎◌}
use Rattle.std.specs.List.{Contains}
use Rattle.std.proofs.lemmas.Bool.{cases_lt, cases_eq}
use Rattle.std.proofs.lemmas.Int.{ints}
use Rattle.map_defs.specs.Nets.{Net, HasCosts}
use Rattle.map_defs.specs.Nearest.{IsNoGreater, BeginsAt, StepsTo, IsLeastValue}
use Rattle.friction_neighbor.specs.Mending.{IsLeastOf, Waits, IsMending}

le_same : (x y : ℤ) → x ≤ℤ y → y ≤ℤ x → x ≡ y
le_same x y h k = grind (arith, ints)

-- cells are one where each is no greater than the other
one_cell : (a b : Option ℤ) → ((z : ℤ) → a ≡ Some z → IsNoGreater b z) → ((z : ℤ) → b ≡ Some z → IsNoGreater a z) → a ≡ b
one_cell None None h k = refl
one_cell None (Some w) h k = absurd (k w refl)
one_cell (Some z) None h k = absurd (h z refl)
one_cell (Some z) (Some w) h k = ap Some (le_same z w (k w refl) (h z refl))

module _ (g : Net) (costs : HasCosts g) (d : ℕ → ℕ) (own : ℕ → Option ℤ) where
  bounded : (v w : ℕ → Option ℤ) (i : ℕ) (a b : Option ℤ) → ((j : ℕ) → StepsTo g d j i → v j ≡ w j) → IsLeastOf g d own v i a → IsLeastOf g d own w i b → (z : ℤ) → a ≡ Some z → IsNoGreater b z
  bounded v w i a b same p q z e = elim (p.attained z e) as (λ _. IsNoGreater b z) [
    | inl s ↦ q.begun z s.0 s.1
    | inr s ↦ q.stepped s.0 z s.1 (sym (same s.0 s.1) ∙ s.2)
  ]

  -- the least of the same values is one
  pub least_one : (v w : ℕ → Option ℤ) (i : ℕ) (a b : Option ℤ) → ((j : ℕ) → StepsTo g d j i → v j ≡ w j) → IsLeastOf g d own v i a → IsLeastOf g d own w i b → a ≡ b
  least_one v w i a b same p q = one_cell a b (bounded v w i a b same p q) (bounded w v i b a (λ j s. sym (same j s)) q p)

  pub least_same : (v w : ℕ → Option ℤ) (i : ℕ) (a b : Option ℤ) → ((j : ℕ) → StepsTo g d j i → v j ≡ w j) → a ≡ b → IsLeastOf g d own v i a → IsLeastOf g d own w i b
  least_same v w i a b same e p =
      let P : Option ℤ → Type 0 = IsLeastOf g d own w i in
      subst P e (record {
        attained = λ z q. elim (p.attained z q) as (λ _. (BeginsAt g d i × (own i ≡ Some z)) ⊎ ((j : ℕ) × StepsTo g d j i × (w j ≡ Some z))) [ inl s ↦ inl s | inr s ↦ inr (s.0, s.1, sym (same s.0 s.1) ∙ s.2) ];
        begun = p.begun;
        stepped = λ j z s q. p.stepped j z s (same j s ∙ q);
      })

  pub least_of : (v : ℕ → Option ℤ) (i : ℕ) → IsLeastValue g d own v i → IsLeastOf g d own v i (v i)
  least_of v i h = record { attained = h.attained; begun = h.begun; stepped = h.stepped }

  pub step_lower : (j i : ℕ) → StepsTo g d j i → d j < d i
  step_lower j i s = let c = costs j i in omega (arith, s.1, c)

  step_or : (j i : ℕ) → StepsTo g d j i ⊎ (StepsTo g d j i → ⊥)
  step_or j i = elim (cases_lt (d i) g.top) as (λ _. StepsTo g d j i ⊎ (StepsTo g d j i → ⊥)) [
    | inr l ↦ inr (λ s. absurd (omega (arith, l, s.0)))
    | inl l ↦ elim (cases_eq (d j + g.step j i) (d i)) as (λ _. StepsTo g d j i ⊎ (StepsTo g d j i → ⊥)) [ inl e ↦ inl (l, e) | inr n ↦ inr (λ s. n s.1) ]
  ]

  module _ (wanted : ℕ → Option ℤ) (agree : (i : ℕ) → IsLeastValue g d own wanted i) where
    -- places of costs below n that have the least or the wanted value have the wanted one
    pub right_below : (v : ℕ → Option ℤ) (n : ℕ) → ((i : ℕ) → d i < n → IsLeastOf g d own v i (v i) ⊎ (v i ≡ wanted i)) → (fuel i : ℕ) → d i < fuel → d i < n → v i ≡ wanted i
    right_below v n h zero i l m = absurd (omega (arith, l))
    right_below v n h (suc fuel) i l m = elim (h i m) as (λ _. v i ≡ wanted i) [
      | inr e ↦ e
      | inl p ↦ least_one v wanted i (v i) (wanted i) (λ j s. let k = step_lower j i s in right_below v n h fuel j (omega (arith, k, l)) (omega (arith, k, m))) p (least_of wanted i (agree i))
    ]

    -- when no place waits, all have the wanted values
    pub all_right : (old v : ℕ → Option ℤ) (marked : ℕ → Bool) → IsMending g d own wanted old v marked [] → (i : ℕ) → v i ≡ wanted i
    all_right old v marked h i = right_below v (suc (d i)) (λ k l. elim (h.each k) as (λ _. IsLeastOf g d own v k (v k) ⊎ (v k ≡ wanted k)) [ inl w ↦ absurd (omega (arith, w.1)) | inr r ↦ r ]) (suc (d i)) i (omega arith) (omega arith)

    -- the place that is taken out of the queue
    module _ (old v : ℕ → Option ℤ) (marked : ℕ → Bool) (entries left : List (ℕ × ℕ)) (at : ℕ) (c : Option ℤ) (now : IsMending g d own wanted old v marked entries) (lowest : (x : ℕ × ℕ) → Contains entries x → d at ≤ x.0) (rest : (x : ℕ × ℕ) → Contains entries x → (x ≡ (d at, at)) ⊎ Contains left x) (least : IsLeastOf g d own v at c) where
      pub right_here : c ≡ wanted at
      right_here = least_one v wanted at c (wanted at)
          (λ j s. let k = step_lower j at s in
          right_below v (d at) (λ i l. elim (now.each i) as (λ _. IsLeastOf g d own v i (v i) ⊎ (v i ≡ wanted i)) [ inl w ↦ (let m = lowest (d i, i) w in absurd (omega (arith, m, l))) | inr r ↦ r ]) (suc (d j)) j (omega arith) k)
          least (least_of wanted at (agree at))

      other_left : (i : ℕ) → i ≢ at → Waits d entries i → Waits d left i
      other_left i n w = elim (rest (d i, i) w) as (λ _. Waits d left i) [ inl e ↦ absurd (n (ap (λ (x : ℕ × ℕ). x.1) e)) | inr r ↦ r ]

      module _ (v' : ℕ → Option ℤ) (marked' : ℕ → Bool) (entries' : List (ℕ × ℕ)) (here : v' at ≡ c) (others : (j : ℕ) → j ≢ at → v' j ≡ v j) (kept : (x : ℕ × ℕ) → Contains left x → Contains entries' x) (entered : (i : ℕ) → marked' i ≡ true → (marked i ≡ true) ⊎ Waits d entries' i) (behind : (v at ≡ c) ⊎ ((k : ℕ) → StepsTo g d at k → marked' k ≡ true)) where
        called_other : (i : ℕ) → i ≢ at → marked' i ≡ true → Waits d entries' i ⊎ (v' i ≡ wanted i)
        called_other i n m = elim (entered i m) as (λ _. Waits d entries' i ⊎ (v' i ≡ wanted i)) [
          | inr w ↦ inl w
          | inl o ↦ elim (now.called i o) as (λ _. Waits d entries' i ⊎ (v' i ≡ wanted i)) [ inl w ↦ inl (kept (d i, i) (other_left i n w)) | inr r ↦ inr (others i n ∙ r) ]
        ]

        others_still : (i : ℕ) → (StepsTo g d at i → ⊥) → (j : ℕ) → StepsTo g d j i → v j ≡ v' j
        others_still i n j s = elim (cases_eq j at) as (λ _. v j ≡ v' j) [ inl e ↦ absurd (n (let P : ℕ → Type 0 = λ k. StepsTo g d k i in subst P e s)) | inr m ↦ sym (others j m) ]

        all_still : v at ≡ c → (j : ℕ) → v j ≡ v' j
        all_still e j = elim (cases_eq j at) as (λ _. v j ≡ v' j) [ inl q ↦ ap v q ∙ e ∙ sym here ∙ ap v' (sym q) | inr m ↦ sym (others j m) ]

        each_other : (i : ℕ) → i ≢ at → IsLeastOf g d own v i (v i) → Waits d entries' i ⊎ (IsLeastOf g d own v' i (v' i) ⊎ (v' i ≡ wanted i))
        each_other i n p = elim behind as (λ _. Waits d entries' i ⊎ (IsLeastOf g d own v' i (v' i) ⊎ (v' i ≡ wanted i))) [
          | inl e ↦ inr (inl (least_same v v' i (v i) (v' i) (λ j s. all_still e j) (all_still e i) p))
          | inr b ↦ elim (step_or at i) as (λ _. Waits d entries' i ⊎ (IsLeastOf g d own v' i (v' i) ⊎ (v' i ≡ wanted i))) [
            | inl s ↦ elim (called_other i n (b i s)) as (λ _. Waits d entries' i ⊎ (IsLeastOf g d own v' i (v' i) ⊎ (v' i ≡ wanted i))) [ inl w ↦ inl w | inr r ↦ inr (inr r) ]
            | inr m ↦ inr (inl (least_same v v' i (v i) (v' i) (others_still i m) (sym (others i n)) p))
          ]
        ]

        pub mended : IsMending g d own wanted old v' marked' entries'
        mended = record {
          each = λ i. elim (cases_eq i at) as (λ _. Waits d entries' i ⊎ (IsLeastOf g d own v' i (v' i) ⊎ (v' i ≡ wanted i))) [
            | inl e ↦ inr (inr (ap v' e ∙ here ∙ right_here ∙ ap wanted (sym e)))
            | inr n ↦ elim (now.each i) as (λ _. Waits d entries' i ⊎ (IsLeastOf g d own v' i (v' i) ⊎ (v' i ≡ wanted i))) [
              | inl w ↦ inl (kept (d i, i) (other_left i n w))
              | inr r ↦ elim r as (λ _. Waits d entries' i ⊎ (IsLeastOf g d own v' i (v' i) ⊎ (v' i ≡ wanted i))) [ inl p ↦ each_other i n p | inr q ↦ inr (inr (others i n ∙ q)) ]
            ]
          ];
          called = λ i m. elim (cases_eq i at) as (λ _. Waits d entries' i ⊎ (v' i ≡ wanted i)) [ inl e ↦ inr (ap v' e ∙ here ∙ right_here ∙ ap wanted (sym e)) | inr n ↦ called_other i n m ];
          kept = λ i. elim (cases_eq i at) as (λ _. (v' i ≡ old i) ⊎ (v' i ≡ wanted i)) [
            | inl e ↦ inr (ap v' e ∙ here ∙ right_here ∙ ap wanted (sym e))
            | inr n ↦ elim (now.kept i) as (λ _. (v' i ≡ old i) ⊎ (v' i ≡ wanted i)) [ inl q ↦ inl (others i n ∙ q) | inr q ↦ inr (others i n ∙ q) ]
          ];
        }
