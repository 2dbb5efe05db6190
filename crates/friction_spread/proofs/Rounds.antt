-- Rows of places that come into the queue.
use Rattle.std.proofs.Common.{◌≡◌, inl, inr, ℕ, ◌+◌, ◌<◌, ◌≤◌, min, List, sym, ◌∙◌, subst, arith}
use Rattle.std.proofs.lemmas.Bool.{cases_lt}
use Rattle.map_nums.specs.Grids.{Size, row_of, column_of, gap}
use Rattle.map_defs.specs.Nets.{Net}
use Rattle.friction_spread.specs.declared.ground.Spot.{Spot}
use Rattle.friction_spread.specs.Costs.{GroundState, net_of}
use Rattle.friction_spread.specs.Spots.{IsSpot}
use Rattle.friction_spread.proofs.Grounds.{leads}
use Rattle.friction_spread.proofs.Least.{only_spot}
use Rattle.least_costs.specs.Queue.{IsQueued, IsKept, IsOfferedBy, OfferedFrom, IsRaised, IsRisen}
use Rattle.least_costs.specs.Filling.{IsRelaxed}
use Rattle.least_costs.proofs.Fills.{relaxed_still}
use Rattle.friction_spread.specs.Rows.{RowQueuedTo, RowOffered, RowOfferedTo, RoundOffered, RoundOfferedTo, RowRisen, RowRisenTo, RoundRisen, RoundRisenTo, RowRelaxed, RowRelaxedTo, RoundRelaxedTo}

pub kept_then : (a b c : List (ℕ × ℕ)) → IsKept a b → IsKept b c → IsKept a c
kept_then a b c p q x h = q x (p x h)

-- a place of a neighbouring row or column is before the bound of the loop
pub below : (a b n h : ℕ) → gap a b ≤ 1 → b < n → h ≡ min (a + 2) n → b < h
below a b n h g l e = omega arith

module _ (g : Net) (s : Size) (d : ℕ → ℕ) (entries entries' : List (ℕ × ℕ)) (c : ℕ) (kept : IsKept entries entries') where
  pub row_queued_next : (row k : ℕ) (p : Spot) → IsSpot s p → p.row ≡ row → p.column ≡ k → IsQueued g d entries' p.at → RowQueuedTo g s d entries c row k → RowQueuedTo g s d entries' c row (k + 1)
  row_queued_next row k p h r e here near j l q n m = elim (cases_lt (column_of s j) k) as (λ _. IsQueued g d entries' j) [
    | inl u ↦ (λ x. kept _ (near j l q n u x))
    | inr u ↦ (let same : j ≡ p.at = only_spot s p j h (q ∙ sym r) (omega (arith, m, u, e)) in let P : ℕ → Type 0 = IsQueued g d entries' in subst P (sym same) here)
  ]

  pub row_offered_next : (row k : ℕ) (p : Spot) → IsSpot s p → p.row ≡ row → p.column ≡ k → IsOfferedBy g d entries' c p.at → RowOfferedTo g s d entries c row k → RowOfferedTo g s d entries' c row (k + 1)
  row_offered_next row k p h r e here near j l q n m = elim (cases_lt (column_of s j) k) as (λ _. IsOfferedBy g d entries' c j) [
    | inl u ↦ (λ x y. kept _ (near j l q n u x y))
    | inr u ↦ (let same : j ≡ p.at = only_spot s p j h (q ∙ sym r) (omega (arith, m, u, e)) in let P : ℕ → Type 0 = IsOfferedBy g d entries' c in subst P (sym same) here)
  ]

  pub round_offered_next : (r : ℕ) → RowOffered g s d entries' c r → RoundOfferedTo g s d entries c r → RoundOfferedTo g s d entries' c (r + 1)
  round_offered_next r row near j l q n m = elim (cases_lt (row_of s j) r) as (λ _. IsOfferedBy g d entries' c j) [
    | inl u ↦ (λ x y. kept _ (near j l q n u x y))
    | inr u ↦ row j l (omega (arith, m, u)) n
  ]

  raised_still : (v i : ℕ) → IsRaised g v d entries c i → IsRaised g v d entries' c i
  raised_still v i h = record { above = λ x y. kept _ (h.above x y); level = λ x. kept _ (h.level x) }

  pub row_risen_next : (v row k : ℕ) (p : Spot) → IsSpot s p → p.row ≡ row → p.column ≡ k → IsRisen g v d entries' c p.at → RowRisenTo g s v d entries c row k → RowRisenTo g s v d entries' c row (k + 1)
  row_risen_next v row k p h r e here near j l q n m = elim (cases_lt (column_of s j) k) as (λ _. IsRisen g v d entries' c j) [
    | inl u ↦ (λ x. raised_still v j (near j l q n u x))
    | inr u ↦ (let same : j ≡ p.at = only_spot s p j h (q ∙ sym r) (omega (arith, m, u, e)) in let P : ℕ → Type 0 = IsRisen g v d entries' c in subst P (sym same) here)
  ]

  pub round_risen_next : (v r : ℕ) → RowRisen g s v d entries' c r → RoundRisenTo g s v d entries c r → RoundRisenTo g s v d entries' c (r + 1)
  round_risen_next v r row near j l q n m = elim (cases_lt (row_of s j) r) as (λ _. IsRisen g v d entries' c j) [
    | inl u ↦ (λ x. raised_still v j (near j l q n u x))
    | inr u ↦ row j l (omega (arith, m, u)) n
  ]

-- ---- costs through a place that are no longer below others

module _ (g : Net) (s : Size) (d d' : ℕ → ℕ) (c : ℕ) (falls : (k : ℕ) → d' k ≤ d k) (here : d' c ≡ d c) where
  pub row_relaxed_next : (row k : ℕ) (p : Spot) → IsSpot s p → p.row ≡ row → p.column ≡ k → IsRelaxed g d' c p.at → RowRelaxedTo g s d c row k → RowRelaxedTo g s d' c row (k + 1)
  row_relaxed_next row k p h r e now near j l q n m = elim (cases_lt (column_of s j) k) as (λ _. IsRelaxed g d' c j) [
    | inl u ↦ relaxed_still g d d' c j falls here (near j l q n u)
    | inr u ↦ (let same : j ≡ p.at = only_spot s p j h (q ∙ sym r) (omega (arith, m, u, e)) in let P : ℕ → Type 0 = IsRelaxed g d' c in subst P (sym same) now)
  ]

  pub round_relaxed_next : (r : ℕ) → RowRelaxed g s d' c r → RoundRelaxedTo g s d c r → RoundRelaxedTo g s d' c (r + 1)
  round_relaxed_next r row near j l q n m = elim (cases_lt (row_of s j) r) as (λ _. IsRelaxed g d' c j) [
    | inl u ↦ relaxed_still g d d' c j falls here (near j l q n u)
    | inr u ↦ row j l (omega (arith, m, u)) n
  ]

-- ---- the places to which a step leads are near

pub risen_round : (g : GroundState) (v : ℕ) (d : ℕ → ℕ) (entries : List (ℕ × ℕ)) (c : ℕ) → RoundRisen (net_of g) g.size v d entries c → (i : ℕ) → IsRisen (net_of g) v d entries c i
risen_round g v d entries c h i l = let j = leads g c i l in h i j.to j.rows j.columns l

pub offers_round : (g : GroundState) (d : ℕ → ℕ) (entries : List (ℕ × ℕ)) (c : ℕ) → RoundOffered (net_of g) g.size d entries c → OfferedFrom (net_of g) d entries c
offers_round g d entries c h i l = let j = leads g c i l in h i j.to j.rows j.columns l
