-- The places near a place give its equation.
use Rattle.std.proofs.Common.{◌≡◌, ◌≢◌, ◌⊎◌, inl, inr, ℕ, suc, ◌+◌, ◌*◌, ◌/◌, ◌%◌, ◌<◌, ◌≤◌, Bool, true, false, refl, sym, ◌∙◌, ap, subst, arith}
use Rattle.std.specs.Prelude.{is_some, if◌then◌else◌}
use Rattle.std.proofs.lemmas.Bool.{cases_lt, cases_Bool}
use Rattle.std.proofs.lemmas.Nat.{div-add-mod', div_below}
use Rattle.map_nums.specs.Grids.{Size, IsSize, cell_at, cells_in, row_of, column_of, gap}
use Rattle.map_defs.specs.Nets.{IsWithin, equation}
use Rattle.map_defs.specs.Spread.{friction_at, step_cost, is_straight_step}
use Rattle.map_defs.proofs.Nets.{equation_is, equation_only}
use Rattle.friction_spread.specs.declared.ground.Spot.{Spot}
use Rattle.friction_spread.specs.Costs.{GroundState, base_of, step_of, net_of}
use Rattle.friction_spread.specs.Spots.{IsSpot, AreNear, weighed}
use Rattle.friction_spread.proofs.Grounds.{IsJoined, leads, step_joined, step_none, no_loop, base_source, base_barrier, base_other}
use Rattle.friction_spread.specs.Rows.{IsLowered, RoundLoweredTo}

-- ---- one step

pub step_same : (g : GroundState) (j i : ℕ) → j ≡ i → suc g.limit ≤ step_of g j i
step_same g j i e = let P : ℕ → Type 0 = λ k. suc g.limit ≤ step_of g k i in subst P (sym e) (no_loop g i)

pub step_barrier : (g : GroundState) (j i : ℕ) → friction_at g.friction j ≡ 0 → step_of g j i ≡ suc g.limit
step_barrier g j i e = step_none g j i (λ h. absurd (omega (arith, h.from_open, e)))

pub step_to_barrier : (g : GroundState) (j i : ℕ) → friction_at g.friction i ≡ 0 → step_of g j i ≡ suc g.limit
step_to_barrier g j i e = step_none g j i (λ h. absurd (omega (arith, h.to_open, e)))

near_spots : (s : Size) (p q : Spot) → IsSpot s p → IsSpot s q → AreNear q p → (gap (row_of s p.at) (row_of s q.at) ≤ 1) × (gap (column_of s p.at) (column_of s q.at) ≤ 1)
near_spots s p q a b n = (omega (arith, n.rows, a.row, b.row), omega (arith, n.columns, a.column, b.column))

pub spots_joined : (g : GroundState) (p q : Spot) → IsSpot g.size p → IsSpot g.size q → AreNear q p → p.at ≢ q.at → 0 < friction_at g.friction p.at → 0 < friction_at g.friction q.at → IsJoined g p.at q.at
spots_joined g p q a b n d o u = let m = near_spots g.size p q a b n in record { from = a.within; to = b.within; from_open = o; to_open = u; other = d; rows = m.0; columns = m.1 }

cost_weighed : (g : GroundState) (p q : Spot) → IsSpot g.size p → IsSpot g.size q → step_cost g.size g.friction p.at q.at ≡ weighed p q (friction_at g.friction p.at) (friction_at g.friction q.at)
unfolding step_cost
cost_weighed g p q a b = rw (a.row, a.column, b.row, b.column) refl

pub step_weighed : (g : GroundState) (p q : Spot) → IsSpot g.size p → IsSpot g.size q → AreNear q p → p.at ≢ q.at → 0 < friction_at g.friction p.at → 0 < friction_at g.friction q.at → step_of g p.at q.at ≡ weighed p q (friction_at g.friction p.at) (friction_at g.friction q.at)
step_weighed g p q a b n d o u = step_joined g p.at q.at (spots_joined g p q a b n d o u) ∙ cost_weighed g p q a b

-- no step from or to a place costs less than five times its friction and 1

five_times : (straight : Bool) (n c : ℕ) → c ≡ (if straight then 5 else 7) * n → 5 * n ≤ c
five_times true n c e = omega (arith, e)
five_times false n c e = omega (arith, e)

pub step_least : (g : GroundState) (j i : ℕ) → step_of g j i < suc g.limit → (5 * (friction_at g.friction j + 1) ≤ step_of g j i) × (5 * (friction_at g.friction i + 1) ≤ step_of g j i)
unfolding step_cost
step_least g j i l =
    let h = leads g j i l in
    let m = five_times (is_straight_step g.size j i) (friction_at g.friction j + friction_at g.friction i) (step_of g j i) (step_joined g j i h) in
    (omega (arith, m, h.to_open), omega (arith, m, h.from_open))

pub too_far : (g : GroundState) (j i own value best : ℕ) → own ≡ friction_at g.friction i → best ≤ suc g.limit → best ≤ value + 5 * (own + 1) → best ≤ value + step_of g j i
too_far g j i own value best e m far = elim (cases_lt (step_of g j i) (suc g.limit)) as (λ _. best ≤ value + step_of g j i) [ inl l ↦ omega (arith, far, e, (step_least g j i l).1) | inr l ↦ omega (arith, l, m) ]

-- ---- places by row and column

pub only_spot : (s : Size) (p : Spot) (i : ℕ) → IsSpot s p → row_of s i ≡ p.row → column_of s i ≡ p.column → i ≡ p.at
only_spot s p i h r c =
    sym (div-add-mod' i s.columns) ∙ ap (λ n. n * s.columns + i % s.columns) (r ∙ h.row) ∙ ap (λ n. p.at / s.columns * s.columns + n) (c ∙ h.column) ∙ div-add-mod' p.at s.columns

pub row_lt : (s : Size) (i : ℕ) → IsSize s → i < cells_in s → row_of s i < s.rows
row_lt s i h l = div_below i s.columns s.rows h.some_column l

-- ---- the equation

pub equation_barrier : (g : GroundState) (d : ℕ → ℕ) (i : ℕ) → IsWithin (net_of g) d → friction_at g.friction i ≡ 0 → suc g.limit ≡ equation (net_of g) d i
equation_barrier g d i w e =
    equation_only (net_of g) d i _ _
    (record { capped = omega arith; begun = omega (arith, base_barrier g i e); stepped = λ j. omega (arith, step_to_barrier g j i e); attained = inl refl })
    (equation_is (net_of g) d w i)

pub equation_source : (g : GroundState) (d : ℕ → ℕ) (i : ℕ) → IsWithin (net_of g) d → i < cells_in g.size → 0 < friction_at g.friction i → is_some (cell_at g.sources i) ≡ true → 0 ≡ equation (net_of g) d i
equation_source g d i w l o e =
    equation_only (net_of g) d i _ _
    (record { capped = omega arith; begun = omega arith; stepped = λ j. omega arith; attained = inr (inl (sym (base_source g i l o e))) })
    (equation_is (net_of g) d w i)

pub not_source : (g : GroundState) (d : ℕ → ℕ) (i : ℕ) → IsWithin (net_of g) d → i < cells_in g.size → 0 < friction_at g.friction i → 0 < equation (net_of g) d i → is_some (cell_at g.sources i) ≡ false
not_source g d i w l o m = elim (cases_Bool (is_some (cell_at g.sources i))) as (λ _. is_some (cell_at g.sources i) ≡ false) [ inl e ↦ absurd (omega (arith, m, equation_source g d i w l o e)) | inr e ↦ e ]

pub equation_near : (g : GroundState) (d : ℕ → ℕ) (i high e : ℕ) → IsWithin (net_of g) d → is_some (cell_at g.sources i) ≡ false → IsLowered (net_of g) d i (suc g.limit) e → RoundLoweredTo (net_of g) g.size d i high e → ((j : ℕ) → j < cells_in g.size → gap (row_of g.size i) (row_of g.size j) ≤ 1 → row_of g.size j < high) → e ≡ equation (net_of g) d i
equation_near g d i high e w s lowered near all =
    equation_only (net_of g) d i _ _
    (record {
      capped = lowered.most;
      begun = omega (arith, lowered.most, base_other g i s);
      stepped = λ j. elim (cases_lt (step_of g j i) (suc g.limit)) as (λ _. e ≤ d j + step_of g j i) [
        | inl l ↦ (let h = leads g j i l in let r : gap (row_of g.size i) (row_of g.size j) ≤ 1 = omega (arith, h.rows) in near j h.from r (omega (arith, h.columns)) (all j h.from r))
        | inr l ↦ omega (arith, l, lowered.most)
      ];
      attained = elim lowered.attained as (λ _. (e ≡ suc g.limit) ⊎ ((e ≡ base_of g i) ⊎ ((j : ℕ) × (e ≡ d j + step_of g j i)))) [ inl q ↦ inl q | inr q ↦ inr (inr q) ];
    })
    (equation_is (net_of g) d w i)
