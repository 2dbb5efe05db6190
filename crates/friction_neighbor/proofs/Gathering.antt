-- The least of the values that steps bring to a place, one place after another.
use Rattle.std.proofs.Common.{◌≡◌, ◌≢◌, ℕ, suc, ◌+◌, ◌*◌, ◌<◌, ◌≤◌, ℤ, Option, Some, None, sym, ◌∙◌, ap, subst, arith, inl, inr}
use Rattle.std.specs.Prelude.{◌⊎◌}
use Rattle.std.proofs.lemmas.Bool.{cases_lt}
use Rattle.std.proofs.lemmas.Int.{ints}
use Rattle.map_nums.specs.Grids.{Cells, cell_at, cells_in, row_of, column_of, gap}
use Rattle.map_defs.specs.Spread.{friction_at}
use Rattle.map_defs.specs.Nearest.{IsNoGreater, BeginsAt, StepsTo}
use Rattle.map_defs.proofs.NearestNet.{no_greater}
use Rattle.friction_spread.specs.Costs.{net_of, step_of}
use Rattle.friction_spread.proofs.Grounds.{net_costs}
use Rattle.friction_spread.proofs.Least.{too_far}
use Rattle.friction_spread.specs.declared.ground.Spot.{Spot}
use Rattle.friction_neighbor.specs.declared.fields.Front.{Front}
use Rattle.friction_neighbor.specs.Fields.{FieldState, IsField, cost_at, own_at}
use Rattle.friction_spread.specs.Spots.{IsSpot, AreNear, weighed}
use Rattle.friction_neighbor.specs.Spots.{IsFront}
use Rattle.friction_neighbor.specs.Gathers.{IsLeastHere, IsLesser, IsGathered, IsBrought, RowBrought, RowBroughtTo, RoundBroughtTo}
use Rattle.friction_neighbor.proofs.Places.{only_spot, step_is, steps_near, free_begins, begins_free}
use Rattle.friction_neighbor.proofs.Righting.{step_lower}
use Rattle.friction_neighbor.proofs.Standing.{no_greater_then}
use Rattle.map_defs.proofs.NearestNet.{number_of}

self_most : (c : Option ℤ) (z : ℤ) → c ≡ Some z → IsNoGreater c z
self_most c z e = no_greater c z z e (omega (arith, ints))

module _ (f : FieldState) (values : Cells) (i : ℕ) where
  pub gathered_none : (best : Option ℤ) → IsGathered f values i best best
  gathered_none best = record { attained = λ z e. inl e; most = self_most best }

  pub gathered_then : (a b c : Option ℤ) → IsGathered f values i a b → IsGathered f values i b c → IsGathered f values i a c
  gathered_then a b c p q = record {
    attained = λ z e. elim (q.attained z e) as (λ _. (a ≡ Some z) ⊎ ((j : ℕ) × StepsTo (net_of f.ground) (cost_at f) j i × (cell_at values j ≡ Some z))) [ inl h ↦ p.attained z h | inr h ↦ inr h ];
    most = λ z e. let n = number_of b z (p.most z e) in no_greater_then c n.0 z (q.most n.0 n.1) n.2;
  }

  brought_still : (best c : Option ℤ) (j : ℕ) → IsGathered f values i best c → IsBrought f values i best j → IsBrought f values i c j
  brought_still best c j g h z s e = let n = number_of best z (h z s e) in no_greater_then c n.0 z (g.most n.0 n.1) n.2

  -- ---- rows of places

  pub row_brought_next : (best c : Option ℤ) (row k : ℕ) (p : Spot) → IsGathered f values i best c → IsSpot f.ground.size p → p.row ≡ row → p.column ≡ k → IsBrought f values i c p.at → RowBroughtTo f values i best row k → RowBroughtTo f values i c row (k + 1)
  row_brought_next best c row k p g h r e here near j l q n m = elim (cases_lt (column_of f.ground.size j) k) as (λ _. IsBrought f values i c j) [
    | inl u ↦ brought_still best c j g (near j l q n u)
    | inr u ↦ (let same : j ≡ p.at = only_spot f.ground.size p j h (q ∙ sym r) (omega (arith, m, u, e)) in let P : ℕ → Type 0 = IsBrought f values i c in subst P (sym same) here)
  ]

  pub round_brought_next : (best c : Option ℤ) (r : ℕ) → IsGathered f values i best c → RowBrought f values i c r → RoundBroughtTo f values i best r → RoundBroughtTo f values i c (r + 1)
  round_brought_next best c r g row near j l q n m = elim (cases_lt (row_of f.ground.size j) r) as (λ _. IsBrought f values i c j) [
    | inl u ↦ brought_still best c j g (near j l q n u)
    | inr u ↦ row j l (omega (arith, m, u)) n
  ]

-- ---- one place

module _ (f : FieldState) (field : IsField f) (values : Cells) (to : Front) (front : IsFront f to) where
  abbrev at : ℕ
  at = to.spot.at

  -- no step leads from a place that is no cheaper
  pub dear_brings : (best : Option ℤ) (j there : ℕ) → there ≡ cost_at f j → to.cost ≤ there → IsBrought f values at best j
  dear_brings best j there e l z s q = let m = step_lower (net_of f.ground) (net_costs f.ground) (cost_at f) (own_at f) j at s in absurd (omega (arith, e, l, m, front.cost))

  -- nor from one that the least step leaves no cheaper
  pub far_brings : (best : Option ℤ) (j there : ℕ) → there ≡ cost_at f j → to.cost ≤ f.ground.limit → to.cost < there + 5 * (to.friction + 1) → IsBrought f values at best j
  far_brings best j there e costed l z s q =
      let far : suc to.cost ≤ there + step_of f.ground j at = too_far f.ground j at to.friction there (suc to.cost) front.friction (omega (arith, costed)) (omega (arith, l)) in
      absurd (omega (arith, far, e, s.1, front.cost))

  -- a step from a cheaper place costs what the frictions weigh
  module _ (from : Spot) (there own cost : ℕ) (spot : IsSpot f.ground.size from) (near : AreNear to.spot from) (is : there ≡ cost_at f from.at) (less : there < to.cost) (costed : to.cost ≤ f.ground.limit) (friction : own ≡ friction_at f.ground.friction from.at) (sum : cost ≡ there + weighed from to.spot own to.friction) where
    step_here : step_of f.ground from.at at ≡ weighed from to.spot own to.friction
    step_here =
        step_is f field from to.spot spot front.spot near (λ e. absurd (omega (arith, is, less, front.cost, ap (cost_at f) e))) (omega (arith, is, less, costed)) (omega (arith, front.cost, costed))
        ∙ ap (λ n. weighed from to.spot n (friction_at f.ground.friction at)) (sym friction) ∙ ap (λ n. weighed from to.spot own n) (sym front.friction)

    pub other_brings : (best : Option ℤ) → cost ≢ to.cost → IsBrought f values at best from.at
    other_brings best n z s q = absurd (n (omega (arith, sum, step_here, is, front.cost, s.1)))

    pub step_brings : cost ≡ to.cost → StepsTo (net_of f.ground) (cost_at f) from.at at
    step_brings e = (omega (arith, front.cost, costed), omega (arith, sum, step_here, is, front.cost, e))

    pub lesser_gathered : (best value c : Option ℤ) → cost ≡ to.cost → value ≡ cell_at values from.at → IsLesser best value c → IsGathered f values at best c
    lesser_gathered best value c e v h = record {
      attained = λ z q. elim h.is as (λ _. (best ≡ Some z) ⊎ ((j : ℕ) × StepsTo (net_of f.ground) (cost_at f) j at × (cell_at values j ≡ Some z))) [ inl k ↦ inl (sym k ∙ q) | inr k ↦ inr (from.at, step_brings e, sym v ∙ sym k ∙ q) ];
      most = h.first;
    }

    pub lesser_brings : (best value c : Option ℤ) → value ≡ cell_at values from.at → IsLesser best value c → IsBrought f values at c from.at
    lesser_brings best value c v h z s q = h.second z (v ∙ q)

  -- ---- all places

  pub round_least : (c : Option ℤ) (high : ℕ) → 0 < to.cost → IsGathered f values at None c → RoundBroughtTo f values at c high → ((j : ℕ) → j < cells_in f.ground.size → gap (row_of f.ground.size at) (row_of f.ground.size j) ≤ 1 → row_of f.ground.size j < high) → IsLeastHere f values at c
  round_least c high some g near all = record {
    attained = λ z e. elim (g.attained z e) as (λ _. (BeginsAt (net_of f.ground) (cost_at f) at × (own_at f at ≡ Some z)) ⊎ ((j : ℕ) × StepsTo (net_of f.ground) (cost_at f) j at × (cell_at values j ≡ Some z))) [ inl n ↦ absurd (cc) | inr h ↦ inr h ];
    begun = λ z b o. absurd (omega (arith, begins_free f field at b, front.cost, some));
    stepped = λ j z s e.
        let h = steps_near f field j at s in
        let r : gap (row_of f.ground.size at) (row_of f.ground.size j) ≤ 1 = omega (arith, h.rows) in
        near j h.from r (omega (arith, h.columns)) (all j h.from r) z s e;
  }

  -- a place without a cost has no value
  pub none_least : f.ground.limit < to.cost → IsLeastHere f values at None
  none_least l = record {
    attained = λ z e. absurd (cc);
    begun = λ z b o. absurd (omega (arith, b.0, front.cost, l));
    stepped = λ j z s e. absurd (omega (arith, s.0, front.cost, l));
  }

  -- and one that costs nothing its own number
  pub own_least : to.cost ≡ 0 → IsLeastHere f values at (own_at f at)
  own_least n = record {
    attained = λ z e. inl (free_begins f field at (omega (arith, n, front.cost)), e);
    begun = λ z b o. self_most (own_at f at) z o;
    stepped = λ j z s e. let m = step_lower (net_of f.ground) (net_costs f.ground) (cost_at f) (own_at f) j at s in absurd (omega (arith, m, n, front.cost));
  }
