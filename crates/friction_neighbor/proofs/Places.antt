-- Steps between places near, and what a field knows of its costs.
use Rattle.std.proofs.Common.{◌≡◌, ◌≢◌, ℕ, Bool, true, false, cond, suc, ◌+◌, ◌*◌, ◌/◌, ◌%◌, ◌<◌, ◌≤◌, min, IsSome, sym, ◌∙◌, ap, arith, inl, inr}
use Rattle.std.specs.Prelude.{◌&&◌, is_some}
use Rattle.std.proofs.lemmas.Bool.{cases_lt, and_parts}
use Rattle.std.proofs.lemmas.Nat.{div-add-mod', div_below}
use Rattle.map_nums.specs.Grids.{Size, IsSize, cell_at, cells_in, row_of, column_of, gap}
use Rattle.map_defs.specs.Nets.{IsLeastIn, IsEquation}
use Rattle.map_defs.specs.Nearest.{BeginsAt, StepsTo}
use Rattle.map_defs.specs.Spread.{friction_at, is_open}
use Rattle.map_defs.proofs.Nets.{least_agree}
use Rattle.map_defs.proofs.SpreadNet.{below_top}
use Rattle.friction_spread.specs.Costs.{net_of, step_of, base_of}
use Rattle.friction_spread.specs.declared.ground.Spot.{Spot as SpreadSpot}
use Rattle.friction_spread.proofs.Grounds.{IsJoined, leads, base_barrier, net_costs}
use Rattle.friction_spread.proofs.Least.{step_weighed, step_to_barrier}
use Rattle.friction_spread.proofs.Shown.{least_all}
use Rattle.friction_spread.specs.declared.ground.Spot.{Spot}
use Rattle.friction_neighbor.specs.Fields.{FieldState, IsField, cost_at, own_at}
use Rattle.friction_spread.specs.Spots.{IsSpot, AreNear, weighed}

-- ---- places by row and column

pub only_spot : (s : Size) (p : Spot) (i : ℕ) → IsSpot s p → row_of s i ≡ p.row → column_of s i ≡ p.column → i ≡ p.at
only_spot s p i h r c =
    sym (div-add-mod' i s.columns) ∙ ap (λ n. n * s.columns + i % s.columns) (r ∙ h.row) ∙ ap (λ n. p.at / s.columns * s.columns + n) (c ∙ h.column) ∙ div-add-mod' p.at s.columns

pub row_lt : (s : Size) (i : ℕ) → IsSize s → i < cells_in s → row_of s i < s.rows
row_lt s i h l = div_below i s.columns s.rows h.some_column l

-- a place of a neighbouring row or column is before the bound of the loop
pub below : (a b n h : ℕ) → gap a b ≤ 1 → b < n → h ≡ min (a + 2) n → b < h
below a b n h g l e = omega arith

abbrev spread_spot : Spot → SpreadSpot
spread_spot p = record { at = p.at; row = p.row; column = p.column }

-- ---- costs

-- where a path may begin, there is a number
pub base_number : (f : FieldState) (i : ℕ) → base_of f.ground i < suc f.ground.limit → IsSome (own_at f i)
unfolding base_of
base_number f i l = (and_parts (is_open f.ground.size f.ground.friction i) (is_some (cell_at f.ground.sources i)) (below_top (is_open f.ground.size f.ground.friction i && is_some (cell_at f.ground.sources i)) 0 (suc f.ground.limit) l)).1

none_or_top : (b : Bool) (c top : ℕ) → c ≡ cond b 0 top → c < top → c ≡ 0
none_or_top true c top e l = e
none_or_top false c top e l = absurd (omega (arith, e, l))

module _ (f : FieldState) (h : IsField f) where
  pub least : (i : ℕ) → IsLeastIn (net_of f.ground) i (cost_at f i)
  least i = least_all f.ground f.costs h.costs i

  pub equal : (i : ℕ) → IsEquation (net_of f.ground) (cost_at f) i (cost_at f i)
  equal i = least_agree (net_of f.ground) (cost_at f) least i

  -- a place with a cost is no barrier
  pub costed_open : (i : ℕ) → cost_at f i < suc f.ground.limit → 0 < friction_at f.ground.friction i
  costed_open i l = elim (cases_lt 0 (friction_at f.ground.friction i)) as (λ _. 0 < friction_at f.ground.friction i) [
    | inl o ↦ o
    | inr o ↦ (let e : friction_at f.ground.friction i ≡ 0 = omega (arith, o) in elim (equal i).attained as (λ _. 0 < friction_at f.ground.friction i) [
      | inl t ↦ absurd (omega (arith, t, l))
      | inr r ↦ elim r as (λ _. 0 < friction_at f.ground.friction i) [
        | inl b ↦ absurd (omega (arith, b, l, base_barrier f.ground i e))
        | inr q ↦ absurd (omega (arith, q.1, l, step_to_barrier f.ground q.0 i e))
      ]
    ])
  ]

  -- what costs nothing is a source
  pub free_begins : (i : ℕ) → cost_at f i ≡ 0 → BeginsAt (net_of f.ground) (cost_at f) i
  free_begins i e = elim (equal i).attained as (λ _. BeginsAt (net_of f.ground) (cost_at f) i) [
    | inl t ↦ absurd (omega (arith, t, e))
    | inr r ↦ elim r as (λ _. BeginsAt (net_of f.ground) (cost_at f) i) [
      | inl b ↦ (omega (arith, e), b)
      | inr q ↦ (let c = net_costs f.ground q.0 i in absurd (omega (arith, q.1, e, c)))
    ]
  ]

  -- where a path may begin, it costs nothing
  pub begins_free : (i : ℕ) → BeginsAt (net_of f.ground) (cost_at f) i → cost_at f i ≡ 0
  unfolding base_of
  begins_free i b = none_or_top (is_open f.ground.size f.ground.friction i && is_some (cell_at f.ground.sources i)) (cost_at f i) (suc f.ground.limit) b.1 b.0

  -- a step that a least cost uses is between neighbours
  pub steps_near : (j i : ℕ) → StepsTo (net_of f.ground) (cost_at f) j i → IsJoined f.ground j i
  steps_near j i s = leads f.ground j i (omega (arith, s.0, s.1))

  -- and costs what two frictions weigh
  pub step_is : (p q : Spot) → IsSpot f.ground.size p → IsSpot f.ground.size q → AreNear q p → p.at ≢ q.at → cost_at f p.at < suc f.ground.limit → cost_at f q.at < suc f.ground.limit →
      step_of f.ground p.at q.at ≡ weighed p q (friction_at f.ground.friction p.at) (friction_at f.ground.friction q.at)
  step_is p q a b n d l m =
      step_weighed f.ground (spread_spot p) (spread_spot q)
      (record { within = a.within; row = a.row; column = a.column; row_within = a.row_within; column_within = a.column_within })
      (record { within = b.within; row = b.row; column = b.column; row_within = b.row_within; column_within = b.column_within })
      (record { rows = n.rows; columns = n.columns }) d (costed_open p.at l) (costed_open q.at m)
