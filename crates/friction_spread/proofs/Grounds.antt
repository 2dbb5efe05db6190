-- The net of a spread: where its steps lead, and what cells show in it.
use Rattle.std.proofs.Common.{◌≡◌, ◌≢◌, inl, inr, ℕ, suc, ◌<◌, ◌≤◌, Bool, true, false, cond, length, Option, Some, None, refl, ◌∙◌, subst, arith, ℤ, pos, negsuc}
use Rattle.std.specs.Prelude.{◌&&◌, nat_lt, is_some}
use Rattle.std.proofs.lemmas.Bool.{cases_lt, cases_Bool, and_parts, and_from, both_ways, ltb-true, lt-ltb, le-leb, lt-leb}
use Rattle.std.proofs.lemmas.Bool.Decides.{nat_tests}
use Rattle.std.proofs.lemmas.List.{get_or_past}
use Rattle.map_nums.specs.Grids.{Size, Cells, cell_at, cells_in, row_of, column_of, gap, is_neighbour}
use Rattle.map_defs.specs.Nets.{IsClosed, HasCosts, IsWithin}
use Rattle.map_defs.specs.Spread.{friction_at, step_cost}
use Rattle.map_defs.specs.Rounds.{is_open, spread_net, cost_cell}
use Rattle.map_defs.proofs.SpreadNet.{below_top, at_top, at_cost, spread_closed, spread_has_costs}
use Rattle.friction_spread.specs.Costs.{GroundState, cost_of, values, AreCosts, base_of, step_of, net_of}

pub net_same : (g : GroundState) → spread_net g.size g.sources g.friction (suc g.limit) ≡ net_of g
unfolding spread_net base_of step_of
net_same g = refl

pub net_closed : (g : GroundState) → IsClosed (net_of g)
net_closed g = subst IsClosed (net_same g) (spread_closed g.size g.sources g.friction (suc g.limit))

pub net_costs : (g : GroundState) → HasCosts (net_of g)
net_costs g = subst HasCosts (net_same g) (spread_has_costs g.size g.sources g.friction (suc g.limit) (omega arith))

-- ---- steps

abbrev joins : GroundState → ℕ → ℕ → Bool
joins g j i = is_open g.size g.friction j && is_open g.size g.friction i && is_neighbour g.size j i

neighbour_is : (s : Size) (j i : ℕ) → is_neighbour s j i ≡ true → (j ≢ i) × (gap (row_of s j) (row_of s i) ≤ 1) × (gap (column_of s j) (column_of s i) ≤ 1)
neighbour_is s j i h = (grind (arith, nat_tests), grind (arith, nat_tests), grind (arith, nat_tests))

neighbour_so : (s : Size) (j i : ℕ) → j ≢ i → gap (row_of s j) (row_of s i) ≤ 1 → gap (column_of s j) (column_of s i) ≤ 1 → is_neighbour s j i ≡ true
neighbour_so s j i n r c = grind (arith, nat_tests)

open_so : (s : Size) (friction : Cells) (i : ℕ) → i < cells_in s → 0 < friction_at friction i → is_open s friction i ≡ true
open_so s friction i l o = and_from (nat_lt i (cells_in s)) (nat_lt 0 (friction_at friction i)) (lt-ltb i (cells_in s) l) (lt-ltb 0 (friction_at friction i) o)

open_some : (s : Size) (friction : Cells) (i : ℕ) → is_open s friction i ≡ true → (i < cells_in s) × (0 < friction_at friction i)
open_some s friction i e = let p = and_parts (nat_lt i (cells_in s)) (nat_lt 0 (friction_at friction i)) e in (ltb-true i (cells_in s) p.0, ltb-true 0 (friction_at friction i) p.1)

pub record IsJoined (g : GroundState) (j i : ℕ) : Type 0 where
  pub from : j < cells_in g.size
  pub to : i < cells_in g.size
  pub from_open : 0 < friction_at g.friction j
  pub to_open : 0 < friction_at g.friction i
  pub other : j ≢ i
  pub rows : gap (row_of g.size j) (row_of g.size i) ≤ 1
  pub columns : gap (column_of g.size j) (column_of g.size i) ≤ 1

joined_is : (g : GroundState) (j i : ℕ) → joins g j i ≡ true → IsJoined g j i
joined_is g j i e =
    let p = and_parts (is_open g.size g.friction j && is_open g.size g.friction i) (is_neighbour g.size j i) e in
    let q = and_parts (is_open g.size g.friction j) (is_open g.size g.friction i) p.0 in
    let a = open_some g.size g.friction j q.0 in
    let b = open_some g.size g.friction i q.1 in
    let n = neighbour_is g.size j i p.1 in
    record { from = a.0; to = b.0; from_open = a.1; to_open = b.1; other = n.0; rows = n.1; columns = n.2 }

joined_so : (g : GroundState) (j i : ℕ) → IsJoined g j i → joins g j i ≡ true
joined_so g j i h = and_from (is_open g.size g.friction j && is_open g.size g.friction i) (is_neighbour g.size j i) (and_from (is_open g.size g.friction j) (is_open g.size g.friction i) (open_so g.size g.friction j h.from h.from_open) (open_so g.size g.friction i h.to h.to_open)) (neighbour_so g.size j i h.other h.rows h.columns)

-- a step is between neighbours that are no barriers
pub leads : (g : GroundState) (j i : ℕ) → step_of g j i < suc g.limit → IsJoined g j i
unfolding step_of
leads g j i l = joined_is g j i (below_top (joins g j i) (step_cost g.size g.friction j i) (suc g.limit) l)

pub step_joined : (g : GroundState) (j i : ℕ) → IsJoined g j i → step_of g j i ≡ step_cost g.size g.friction j i
unfolding step_of
step_joined g j i h = at_cost (joins g j i) (step_cost g.size g.friction j i) (suc g.limit) (joined_so g j i h)

-- and any other costs `top`
pub step_none : (g : GroundState) (j i : ℕ) → (IsJoined g j i → ⊥) → step_of g j i ≡ suc g.limit
unfolding step_of
step_none g j i n = elim (cases_Bool (joins g j i)) as (λ _. cond (joins g j i) (step_cost g.size g.friction j i) (suc g.limit) ≡ suc g.limit) [
  | inl e ↦ absurd (n (joined_is g j i e))
  | inr e ↦ at_top (joins g j i) (step_cost g.size g.friction j i) (suc g.limit) e
]

pub no_loop : (g : GroundState) (i : ℕ) → suc g.limit ≤ step_of g i i
no_loop g i = omega (arith, step_none g i i (λ h. h.other refl))

-- ---- bases

pub base_source : (g : GroundState) (i : ℕ) → i < cells_in g.size → 0 < friction_at g.friction i → is_some (cell_at g.sources i) ≡ true → base_of g i ≡ 0
unfolding base_of
base_source g i l o e = at_cost (is_open g.size g.friction i && is_some (cell_at g.sources i)) 0 (suc g.limit) (and_from (is_open g.size g.friction i) (is_some (cell_at g.sources i)) (open_so g.size g.friction i l o) e)

pub base_barrier : (g : GroundState) (i : ℕ) → friction_at g.friction i ≡ 0 → base_of g i ≡ suc g.limit
unfolding base_of
base_barrier g i e = elim (cases_Bool (is_open g.size g.friction i && is_some (cell_at g.sources i))) as (λ _. cond (is_open g.size g.friction i && is_some (cell_at g.sources i)) 0 (suc g.limit) ≡ suc g.limit) [
  | inl t ↦ absurd (omega (arith, e, (open_some g.size g.friction i (and_parts (is_open g.size g.friction i) (is_some (cell_at g.sources i)) t).0).1))
  | inr t ↦ at_top (is_open g.size g.friction i && is_some (cell_at g.sources i)) 0 (suc g.limit) t
]

pub base_other : (g : GroundState) (i : ℕ) → is_some (cell_at g.sources i) ≡ false → base_of g i ≡ suc g.limit
unfolding base_of
base_other g i e = elim (cases_Bool (is_open g.size g.friction i && is_some (cell_at g.sources i))) as (λ _. cond (is_open g.size g.friction i && is_some (cell_at g.sources i)) 0 (suc g.limit) ≡ suc g.limit) [
  | inl t ↦ absurd (both_ways (is_some (cell_at g.sources i)) e (and_parts (is_open g.size g.friction i) (is_some (cell_at g.sources i)) t).1)
  | inr t ↦ at_top (is_open g.size g.friction i && is_some (cell_at g.sources i)) 0 (suc g.limit) t
]

-- ---- cells

pub values_within : (g : GroundState) (cells : Cells) → length cells ≡ cells_in g.size → IsWithin (net_of g) (values g.limit cells)
values_within g cells n j l = let e : cell_at cells j ≡ None = get_or_past cells j None (omega (arith, n)) in rw (e) (omega arith)

pub cost_back : (limit v : ℕ) → v ≤ suc limit → cost_of (suc limit) (cost_cell limit v) ≡ v
cost_back limit v h = elim (cases_lt limit v) as (λ _. cost_of (suc limit) (cost_cell limit v) ≡ v) [
  | inl l ↦ rw (lt-leb v limit l) (omega arith)
  | inr l ↦ rw (le-leb v limit l) refl
]

cost_most : (limit : ℕ) (c : Option ℤ) → c ≡ cost_cell limit (cost_of (suc limit) c) → cost_of (suc limit) c ≤ suc limit
cost_most limit None e = omega arith
cost_most limit (Some (pos v)) e = elim (cases_lt limit v) as (λ _. v ≤ suc limit) [
  | inl l ↦ (let q : Some (pos v) ≡ None = e ∙ rw (lt-leb v limit l) refl in absurd (cc))
  | inr l ↦ omega arith
]
cost_most limit (Some (negsuc v)) e = omega arith

pub values_most : (limit : ℕ) (cells : Cells) → AreCosts limit cells → (i : ℕ) → values limit cells i ≤ suc limit
values_most limit cells h i = cost_most limit (cell_at cells i) (h i)

pub base_outside : (g : GroundState) (i : ℕ) → cells_in g.size ≤ i → base_of g i ≡ suc g.limit
unfolding base_of
base_outside g i l = elim (cases_Bool (is_open g.size g.friction i && is_some (cell_at g.sources i))) as (λ _. cond (is_open g.size g.friction i && is_some (cell_at g.sources i)) 0 (suc g.limit) ≡ suc g.limit) [
  | inl t ↦ absurd (omega (arith, l, (open_some g.size g.friction i (and_parts (is_open g.size g.friction i) (is_some (cell_at g.sources i)) t).0).0))
  | inr t ↦ at_top (is_open g.size g.friction i && is_some (cell_at g.sources i)) 0 (suc g.limit) t
]
