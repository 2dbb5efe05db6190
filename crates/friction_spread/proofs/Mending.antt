-- After the operands of some places changed, the places near them alone may disagree.
use Rattle.std.proofs.Common.{◌≡◌, ◌⊎◌, inl, inr, ℕ, zero, suc, ◌+◌, ◌*◌, ◌<◌, Bool, true, false, List, [], ◌∷◌, length, get_or, Option, Some, refl, sym, ◌∙◌, ap, subst, arith, ℤ}
use Rattle.std.specs.Prelude.{◌&&◌, ◌||◌, nat_lt, is_some, if◌then◌else◌}
use Rattle.std.proofs.lemmas.Bool.{cases_lt, or_left, or_right}
use Rattle.map_nums.specs.Grids.{Size, Cells, cell_at, cells_in, row_of, column_of, gap, is_neighbour}
use Rattle.map_defs.specs.Damage.{differs, has_changed}
use Rattle.map_defs.specs.Nets.{Net, IsWithin, equation}
use Rattle.map_defs.specs.Spread.{friction_of, friction_at, is_straight_step, step_cost, IsSpread}
use Rattle.map_defs.proofs.Nets.{equation_is, equation_only, least_agree}
use Rattle.tile_work.specs.Working.{base_of as old_of}
use Rattle.friction_spread.specs.Costs.{GroundState, values, AreCosts, base_of, step_of, net_of}
use Rattle.friction_spread.specs.Near.{IsNear, IsFarFrom, AgreeFar}
use Rattle.friction_spread.proofs.Grounds.{step_none, net_closed, values_within, values_most}
use Rattle.friction_spread.proofs.Begun.{start}
use Rattle.friction_spread.proofs.Shown.{least_all, costs_here}
use Rattle.least_costs.specs.Queue.{IsQueued}
use Rattle.friction_spread.specs.Rows.{RoundQueued}
use Rattle.least_costs.specs.Best.{IsRepairing}
use Rattle.changed_cells.specs.Unions.{AreAllPlaces}
use Rattle.least_costs.proofs.Equations.{outside}
use Rattle.changed_cells.proofs.Joining.{differs_not}

-- ---- a step, and a base, depend on the cells of their places alone

abbrev step_with : Size → ℕ → ℕ → ℕ → ℕ → ℕ → ℕ
step_with s limit a b j i = if (nat_lt j (cells_in s) && nat_lt 0 a) && (nat_lt i (cells_in s) && nat_lt 0 b) && is_neighbour s j i then (if is_straight_step s j i then 5 else 7) * (a + b) else suc limit

step_is : (g : GroundState) (j i : ℕ) → step_of g j i ≡ step_with g.size g.limit (friction_at g.friction j) (friction_at g.friction i) j i
unfolding step_of step_cost
step_is g j i = refl

abbrev base_with : Size → ℕ → ℕ → Bool → ℕ → ℕ
base_with s limit a source i = if (nat_lt i (cells_in s) && nat_lt 0 a) && source then 0 else suc limit

base_is : (g : GroundState) (i : ℕ) → base_of g i ≡ base_with g.size g.limit (friction_at g.friction i) (is_some (cell_at g.sources i)) i
unfolding base_of
base_is g i = refl

near_or : (s : Size) (c i : ℕ) → IsNear s c i ⊎ (IsNear s c i → ⊥)
near_or s c i = elim (cases_lt (gap (row_of s c) (row_of s i)) 2) as (λ _. IsNear s c i ⊎ (IsNear s c i → ⊥)) [
  | inl l ↦ elim (cases_lt (gap (column_of s c) (column_of s i)) 2) as (λ _. IsNear s c i ⊎ (IsNear s c i → ⊥))
      [ inl m ↦ inl (record { rows = omega (arith, l); columns = omega (arith, m) }) | inr m ↦ inr (λ n. absurd (omega (arith, m, n.columns))) ]
  | inr l ↦ inr (λ n. absurd (omega (arith, l, n.rows)))
]

abbrev pub NearSome : Size → List ℕ → ℕ → Type 0
NearSome s places i = (k : ℕ) × (k < length places) × IsNear s (get_or places k 0) i

far_first : (s : Size) (c i : ℕ) (cells : List ℕ) → (IsNear s c i → ⊥) → IsFarFrom s cells i → IsFarFrom s (c ∷ cells) i
far_first s c i cells f h zero l n = f n
far_first s c i cells f h (suc k) l n = h k (omega (arith, l)) n

near_some : (s : Size) (i : ℕ) (cells : List ℕ) → NearSome s cells i ⊎ IsFarFrom s cells i
near_some s i [] = inr (λ k l n. absurd (omega (arith, l)))
near_some s i (c ∷ cells) = elim (near_or s c i) as (λ _. NearSome s (c ∷ cells) i ⊎ IsFarFrom s (c ∷ cells) i) [
  | inl n ↦ inl (0, omega arith, n)
  | inr f ↦ elim (near_some s i cells) as (λ _. NearSome s (c ∷ cells) i ⊎ IsFarFrom s (c ∷ cells) i)
      [ inl h ↦ inl (suc h.0, omega (arith, h.1), h.2) | inr h ↦ inr (far_first s c i cells f h) ]
]

-- ---- the same net round a place

equation_same : (g h : Net) (d : ℕ → ℕ) (i : ℕ) → g.top ≡ h.top → IsWithin g d → IsWithin h d → g.base i ≡ h.base i → ((j : ℕ) → g.step j i ≡ h.step j i) → equation g d i ≡ equation h d i
equation_same g h d i t w v b s =
    let p = equation_is g d w i in
    let e = equation g d i in
    equation_only h d i _ _
    (record {
      capped = omega (arith, p.capped, t);
      begun = omega (arith, p.begun, b);
      stepped = λ j. omega (arith, p.stepped j, s j);
      attained = elim p.attained as (λ _. (e ≡ h.top) ⊎ ((e ≡ h.base i) ⊎ ((j : ℕ) × (e ≡ d j + h.step j i)))) [
        | inl q ↦ inl (q ∙ t)
        | inr q ↦ elim q as (λ _. (e ≡ h.top) ⊎ ((e ≡ h.base i) ⊎ ((j : ℕ) × (e ≡ d j + h.step j i)))) [ inl r ↦ inr (inl (r ∙ b)) | inr r ↦ inr (inr (r.0, r.1 ∙ ap (λ x. d r.0 + x) (s r.0))) ]
      ];
    })
    (equation_is h d v i)

module _ (s : Size) (limit : ℕ) (s0 s1 f0 f1 : Cells) where
  abbrev before : GroundState
  before = record { size = s; sources = s0; friction = f0; limit = limit }

  abbrev after : GroundState
  after = record { size = s; sources = s1; friction = f1; limit = limit }

  abbrev test : ℕ → Bool
  test = has_changed (s0 ∷ f0 ∷ []) (s1 ∷ f1 ∷ [])

  step_by : (j i : ℕ) → cell_at f0 j ≡ cell_at f1 j → cell_at f0 i ≡ cell_at f1 i → step_of before j i ≡ step_of after j i
  step_by j i p q = step_is before j i ∙ ap (λ c. step_with s limit (friction_of c) (friction_at f0 i) j i) p ∙ ap (λ c. step_with s limit (friction_at f1 j) (friction_of c) j i) q ∙ sym (step_is after j i)

  base_by : (i : ℕ) → cell_at f0 i ≡ cell_at f1 i → cell_at s0 i ≡ cell_at s1 i → base_of before i ≡ base_of after i
  base_by i p q = base_is before i ∙ ap (λ c. base_with s limit (friction_of c) (is_some (cell_at s0 i)) i) p ∙ ap (λ c. base_with s limit (friction_at f1 i) (is_some c) i) q ∙ sym (base_is after i)

  false_of : (b : Bool) → (b ≡ true → ⊥) → b ≡ false
  false_of true n = absurd (n refl)
  false_of false n = refl

  same_sources : (i : ℕ) → (test i ≡ true → ⊥) → cell_at s0 i ≡ cell_at s1 i
  same_sources i n = differs_not s0 s1 i (false_of (differs s0 s1 i) (λ e. n (or_left (differs s0 s1 i) (differs f0 f1 i || false) e)))

  same_friction : (i : ℕ) → (test i ≡ true → ⊥) → cell_at f0 i ≡ cell_at f1 i
  same_friction i n = differs_not f0 f1 i (false_of (differs f0 f1 i) (λ e. n (or_right (differs s0 s1 i) (differs f0 f1 i || false) (or_left (differs f0 f1 i) false e))))

  module _ (changed : List ℕ) (all : AreAllPlaces s test changed) (cells : Cells) (right : IsSpread s s0 f0 limit cells) where
    unchanged : (i j : ℕ) → IsFarFrom s changed i → j < cells_in s → IsNear s j i → test j ≡ true → ⊥
    unchanged i j far l n e = let h = all.all j l e in let P : ℕ → Type 0 = λ c. IsNear s c i in far h.0 h.1 (subst P (sym h.2) n)

    self_near : (i : ℕ) → IsNear s i i
    self_near i = record { rows = omega arith; columns = omega arith }

    step_kept : (i j : ℕ) → i < cells_in s → IsFarFrom s changed i → step_of before j i ≡ step_of after j i
    step_kept i j l far = elim (cases_lt j (cells_in s)) as (λ _. step_of before j i ≡ step_of after j i) [
      | inr m ↦ step_none before j i (λ h. absurd (omega (arith, m, h.from))) ∙ sym (step_none after j i (λ h. absurd (omega (arith, m, h.from))))
      | inl m ↦ elim (near_or s j i) as (λ _. step_of before j i ≡ step_of after j i) [
        | inl n ↦ step_by j i (same_friction j (unchanged i j far m n)) (same_friction i (unchanged i i far l (self_near i)))
        | inr n ↦ step_none before j i (λ h. n (record { rows = h.rows; columns = h.columns })) ∙ sym (step_none after j i (λ h. n (record { rows = h.rows; columns = h.columns })))
      ]
    ]

    pub agree_far : AgreeFar after cells changed
    agree_far i far =
        let d = values limit cells in
        let w : IsWithin (net_of before) d = values_within before cells right.full in
        let v : IsWithin (net_of after) d = values_within after cells right.full in
        elim (cases_lt i (cells_in s)) as (λ _. d i ≡ equation (net_of after) d i) [
          | inr l ↦ omega (arith, w i l, values_most limit cells (costs_here before cells right) i, outside (net_of after) d i (net_closed after) v l)
          | inl l ↦ equation_only (net_of before) d i (d i) (equation (net_of before) d i) (least_agree (net_of before) d (least_all before cells right) i) (equation_is (net_of before) d w i)
              ∙ equation_same (net_of before) (net_of after) d i refl w v (base_by i (same_friction i (unchanged i i far l (self_near i))) (same_sources i (unchanged i i far l (self_near i)))) (λ j. step_kept i j l far)
        ]

-- ---- all that disagree stand in the queue, where those near the changed places do

pub all_queued : (g : GroundState) (cells : Cells) (changed : List ℕ) (entries : List (ℕ × ℕ)) → length cells ≡ cells_in g.size → AreCosts g.limit cells → AgreeFar g cells changed → ((k : ℕ) → k < length changed → RoundQueued (net_of g) g.size (values g.limit cells) entries (get_or changed k 0)) → (i : ℕ) → IsQueued (net_of g) (values g.limit cells) entries i
all_queued g cells changed entries n costs far round i = elim (cases_lt i (cells_in g.size)) as (λ _. IsQueued (net_of g) (values g.limit cells) entries i) [
  | inr l ↦ (λ m. let w = values_within g cells n in absurd (m (omega (arith, w i l, values_most g.limit cells costs i, outside (net_of g) (values g.limit cells) i (net_closed g) w l))))
  | inl l ↦ elim (near_some g.size i changed) as (λ _. IsQueued (net_of g) (values g.limit cells) entries i) [
    | inl h ↦ round h.0 h.1 i l h.2.rows h.2.columns
    | inr h ↦ (λ m. absurd (m (far i h)))
  ]
]

pub repair_begun : (g : GroundState) (before : Option (List (Option ℤ))) (old cells : Cells) (changed : List ℕ) (entries : List (ℕ × ℕ)) → before ≡ Some old → cells ≡ old → length old ≡ cells_in g.size → AreCosts g.limit old → AgreeFar g old changed → ((k : ℕ) → k < length changed → RoundQueued (net_of g) g.size (values g.limit cells) entries (get_or changed k 0)) →
    IsRepairing (net_of g) (values g.limit (old_of before)) (values g.limit cells) entries 0
repair_begun g before old cells changed entries b c n costs far round =
    let P : Cells → Type 0 = λ xs. IsRepairing (net_of g) (values g.limit (old_of before)) (values g.limit xs) entries 0 in
    let Q : Option (List (Option ℤ)) → Type 0 = λ o. IsRepairing (net_of g) (values g.limit (old_of o)) (values g.limit old) entries 0 in
    let R : Cells → Type 0 = λ xs. (k : ℕ) → k < length changed → RoundQueued (net_of g) g.size (values g.limit xs) entries (get_or changed k 0) in
    subst P (sym c) (subst Q (sym b) (start (net_of g) (values g.limit old) (values g.limit old) entries (values_within g old n) (λ i. refl) (values_most g.limit old costs) (all_queued g old changed entries n costs far (subst R c round))))
