-- Equations where one value is another one.
use Rattle.std.proofs.Common.{◌≡◌, ◌≢◌, ℕ, ◌+◌, ◌<◌, ◌≤◌, min, ◌∙◌, sym, ap, arith, inl, inr, subst}
use Rattle.std.specs.Prelude.{◌⊎◌, nat_lt, if◌then◌else◌}
use Rattle.std.proofs.lemmas.Bool.{cases_lt, cases_order}
use Rattle.std.proofs.lemmas.Bool.Decides.{nat_tests}
use Rattle.map_defs.specs.Nets.{Net, IsClosed, IsWithin, equation}
use Rattle.map_defs.proofs.Nets.{equation_is, equation_only}
use Rattle.least_costs.specs.Queue.{next_value}

pub same_or : (a b : ℕ) → (a ≡ b) ⊎ (a ≢ b)
same_or a b = elim (cases_order a b) as (λ _. (a ≡ b) ⊎ (a ≢ b)) [ inl e ↦ inl e | inr h ↦ elim h as (λ _. (a ≡ b) ⊎ (a ≢ b)) [ inl l ↦ inr (omega arith) | inr l ↦ inr (omega arith) ] ]

-- an equation does not change with a place from which no step leads
pub equation_kept : (g : Net) (d d' : ℕ → ℕ) (c i : ℕ) → IsWithin g d → IsWithin g d' → ((j : ℕ) → j ≢ c → d' j ≡ d j) → g.top ≤ g.step c i → equation g d' i ≡ equation g d i
equation_kept g d d' c i w w' s t =
    let p = equation_is g d' w' i in
    let e' = equation g d' i in
    equation_only g d i _ _
    (record {
      capped = p.capped;
      begun = p.begun;
      stepped = λ j. elim (same_or j c) as (λ _. e' ≤ d j + g.step j i) [ inl e ↦ (let q : g.top ≤ g.step j i = rw (e) t in omega (arith, p.capped, q)) | inr n ↦ omega (arith, p.stepped j, s j n) ];
      attained = elim p.attained as (λ _. (e' ≡ g.top) ⊎ ((e' ≡ g.base i) ⊎ ((j : ℕ) × (e' ≡ d j + g.step j i)))) [
        | inl e ↦ inl e
        | inr h ↦ elim h as (λ _. (e' ≡ g.top) ⊎ ((e' ≡ g.base i) ⊎ ((j : ℕ) × (e' ≡ d j + g.step j i)))) [
          | inl e ↦ inr (inl e)
          | inr h ↦ elim (same_or h.0 c) as (λ _. (e' ≡ g.top) ⊎ ((e' ≡ g.base i) ⊎ ((j : ℕ) × (e' ≡ d j + g.step j i))))
              [ inl e ↦ (let q : g.top ≤ g.step h.0 i = rw (e) t in inl (omega (arith, p.capped, h.1, q))) | inr n ↦ inr (inr (h.0, h.1 ∙ ap (λ x. x + g.step h.0 i) (s h.0 n))) ]
        ]
      ];
    })
    (equation_is g d w i)

-- where one value falls, an equation falls to the cost through it
pub equation_fallen : (g : Net) (d d' : ℕ → ℕ) (c i : ℕ) → IsWithin g d → IsWithin g d' → ((j : ℕ) → j ≢ c → d' j ≡ d j) → d' c ≤ d c → equation g d' i ≡ min (equation g d i) (d' c + g.step c i)
equation_fallen g d d' c i w w' s l =
    let p = equation_is g d w i in
    let e = equation g d i in
    let t = d' c + g.step c i in
    equation_only g d' i _ _ (equation_is g d' w' i)
    (record {
      capped = omega (arith, p.capped);
      begun = omega (arith, p.begun);
      stepped = λ j. elim (same_or j c) as (λ _. min e t ≤ d' j + g.step j i) [ inl q ↦ rw (q) (omega arith) | inr n ↦ omega (arith, p.stepped j, s j n) ];
      attained = elim (cases_lt t e) as (λ _. (min e t ≡ g.top) ⊎ ((min e t ≡ g.base i) ⊎ ((j : ℕ) × (min e t ≡ d' j + g.step j i)))) [
        | inl m ↦ inr (inr (c, omega arith))
        | inr m ↦ (let k : min e t ≡ e = omega arith in elim p.attained as (λ _. (min e t ≡ g.top) ⊎ ((min e t ≡ g.base i) ⊎ ((j : ℕ) × (min e t ≡ d' j + g.step j i)))) [
          | inl h ↦ inl (k ∙ h)
          | inr h ↦ elim h as (λ _. (min e t ≡ g.top) ⊎ ((min e t ≡ g.base i) ⊎ ((j : ℕ) × (min e t ≡ d' j + g.step j i)))) [
            | inl h ↦ inr (inl (k ∙ h))
            | inr h ↦ elim (same_or h.0 c) as (λ _. (min e t ≡ g.top) ⊎ ((min e t ≡ g.base i) ⊎ ((j : ℕ) × (min e t ≡ d' j + g.step j i)))) [
              | inl q ↦ (let P : ℕ → Type 0 = λ j. e ≡ d j + g.step j i in let z : e ≡ d c + g.step c i = subst P q h.1 in inr (inr (c, omega (arith, z, m, l))))
              | inr n ↦ inr (inr (h.0, k ∙ (h.1 ∙ ap (λ x. x + g.step h.0 i) (sym (s h.0 n)))))
            ]
          ]
        ])
      ];
    })

-- outside no equation gives less than `top`
pub outside : (g : Net) (d : ℕ → ℕ) (i : ℕ) → IsClosed g → IsWithin g d → g.size ≤ i → equation g d i ≡ g.top
outside g d i closed w l =
    let p = equation_is g d w i in
    let b = closed.begins_within i l in
    elim p.attained as (λ _. equation g d i ≡ g.top)
    [ inl e ↦ e | inr h ↦ elim h as (λ _. equation g d i ≡ g.top) [ inl e ↦ omega (arith, p.capped, b, e) | inr h ↦ omega (arith, p.capped, closed.steps_within h.0 i l, h.1) ] ]

pub next_above : (e v t : ℕ) → e < v → (if nat_lt e v then e else t) ≡ e
next_above e v t l = grind (arith, nat_tests)

pub next_below : (e v t : ℕ) → v ≤ e → (if nat_lt e v then e else t) ≡ t
next_below e v t l = grind (arith, nat_tests)

pub next_most : (g : Net) (d : ℕ → ℕ) (i : ℕ) → IsWithin g d → next_value g d i ≤ g.top
next_most g d i w =
    let e = equation g d i in
    elim (cases_lt e (d i)) as (λ _. next_value g d i ≤ g.top)
    [ inl l ↦ rw (next_above e (d i) g.top l) (equation_is g d w i).capped | inr l ↦ rw (next_below e (d i) g.top l) (omega arith) ]

-- where one value rises, no equation falls
pub equation_rises : (g : Net) (d d' : ℕ → ℕ) (c i : ℕ) → IsWithin g d → IsWithin g d' → ((j : ℕ) → j ≢ c → d' j ≡ d j) → d c ≤ d' c → equation g d i ≤ equation g d' i
equation_rises g d d' c i w w' s l =
    let p = equation_is g d w i in
    let q = equation_is g d' w' i in
    let e = equation g d i in
    let e' = equation g d' i in
    elim q.attained as (λ _. e ≤ e') [
      | inl h ↦ omega (arith, p.capped, h)
      | inr h ↦ elim h as (λ _. e ≤ e') [
        | inl h ↦ omega (arith, p.begun, h)
        | inr h ↦ (let m : d h.0 ≤ d' h.0 = elim (same_or h.0 c) as (λ _. d h.0 ≤ d' h.0) [ inl x ↦ (let P : ℕ → Type 0 = λ j. d j ≤ d' j in subst P (sym x) l) | inr n ↦ omega (arith, s h.0 n) ] in
            omega (arith, p.stepped h.0, h.1, m))
      ]
    ]

-- and one below the cost through that place does not rise
pub equation_holds : (g : Net) (d d' : ℕ → ℕ) (c i : ℕ) → IsWithin g d → IsWithin g d' → ((j : ℕ) → j ≢ c → d' j ≡ d j) → equation g d i < d c + g.step c i → equation g d' i ≤ equation g d i
equation_holds g d d' c i w w' s l =
    let p = equation_is g d w i in
    let q = equation_is g d' w' i in
    let e = equation g d i in
    let e' = equation g d' i in
    elim p.attained as (λ _. e' ≤ e) [
      | inl h ↦ omega (arith, q.capped, h)
      | inr h ↦ elim h as (λ _. e' ≤ e) [
        | inl h ↦ omega (arith, q.begun, h)
        | inr h ↦ elim (same_or h.0 c) as (λ _. e' ≤ e) [
          | inl x ↦ (let P : ℕ → Type 0 = λ j. e ≡ d j + g.step j i in let y : e ≡ d c + g.step c i = subst P x h.1 in absurd (omega (arith, y, l)))
          | inr n ↦ omega (arith, q.stepped h.0, h.1, s h.0 n)
        ]
      ]
    ]
