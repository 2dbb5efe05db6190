-- A place that is dealt with is taken.
use Rattle.std.proofs.Common.{◌≡◌, ◌≢◌, ℕ, suc, ◌+◌, ◌<◌, ◌≤◌, min, List, length, sym, ◌∙◌, subst, arith}
use Rattle.std.specs.List.{Contains}
use Rattle.map_nums.specs.Grids.{cells_in}
use Rattle.map_defs.specs.Nets.{IsWithin, equation}
use Rattle.least_costs.specs.Queue.{IsQueued, IsKept, IsDue, IsSetTo, IsFall, IsRise, IsTake, IsRisen}
use Rattle.least_costs.proofs.Equations.{equation_kept, next_above, next_below}
use Rattle.friction_spread.specs.Costs.{GroundState, net_of}
use Rattle.friction_spread.specs.Rows.{RoundOffered, RoundRisen}
use Rattle.friction_spread.proofs.Grounds.{no_loop}
use Rattle.friction_spread.proofs.Rounds.{offers_round, risen_round}

-- where the place disagrees and its key is this one
pub due_here : (g : GroundState) (d : ℕ → ℕ) (key at spot v o : ℕ) → spot ≡ at → at < cells_in g.size → v ≡ d at → o ≡ equation (net_of g) d spot → min v o ≡ key → v ≢ o → IsDue (net_of g) d key at
due_here g d key at spot v o here within value other is_key n =
    let P : ℕ → Type 0 = λ i. o ≡ equation (net_of g) d i in
    let e = subst P here other in
    record { within = within; disagrees = λ x. n (value ∙ x ∙ sym e); is_key = omega (arith, is_key, e, value) }

module _ (g : GroundState) (d d' : ℕ → ℕ) (entries entries' : List (ℕ × ℕ)) (key at spot v o : ℕ) (here : spot ≡ at) (within : at < cells_in g.size) (value : v ≡ d at) (other : o ≡ equation (net_of g) d spot) (is_key : min v o ≡ key) (kept : IsKept entries entries') where
  other_at : o ≡ equation (net_of g) d at
  other_at = let P : ℕ → Type 0 = λ i. o ≡ equation (net_of g) d i in subst P here other

  pub falls : length entries' ≤ length entries + 9 → o < v → IsSetTo d at o d' → RoundOffered (net_of g) g.size d' entries' spot → IsTake (net_of g) d entries key at d' entries' (IsFall (net_of g) d d' entries' at) 9
  falls few l set round =
      let e = other_at in
      let a : equation (net_of g) d at < d at = omega (arith, l, e, value) in
      let P : ℕ → Type 0 = λ x. IsSetTo d at x d' in
      let Q : ℕ → Type 0 = λ i. RoundOffered (net_of g) g.size d' entries' i in
      record {
        due = due_here g d key at spot v o here within value other is_key (λ x. absurd (omega (arith, x, l)));
        value = subst P (e ∙ sym (next_above (equation (net_of g) d at) (d at) (suc g.limit) a)) set;
        kept = kept;
        queued = record { above = a; fallen = offers_round g d' entries' at (subst Q here round) };
        few = few;
      }

  -- the place itself stands in the queue with what its equation gives, which its own value does not enter
  queued_here : IsWithin (net_of g) d → IsWithin (net_of g) d' → IsSetTo d at (suc g.limit) d' → (o < suc g.limit → Contains entries' (o, at)) → equation (net_of g) d' at ≤ suc g.limit → IsQueued (net_of g) d' entries' at
  queued_here w w' set there most n =
      let e = other_at in
      let k : equation (net_of g) d' at ≡ equation (net_of g) d at = equation_kept (net_of g) d d' at at w w' set.other (no_loop g at) in
      let h = set.here in
      let m : o < suc g.limit = omega (arith, n, h, k, e, most) in
      let P : ℕ → Type 0 = λ x. Contains entries' (x, at) in
      let q : o ≡ min (d' at) (equation (net_of g) d' at) = omega (arith, k, e, h, m) in
      subst P q (there m)

  pub raises : length entries' ≤ length entries + 10 → IsWithin (net_of g) d → IsWithin (net_of g) d' → equation (net_of g) d' at ≤ suc g.limit → v ≢ o → v ≤ o → IsSetTo d at (suc g.limit) d' → (o < suc g.limit → Contains entries' (o, at)) → RoundRisen (net_of g) g.size v d' entries' spot → IsTake (net_of g) d entries key at d' entries' (IsRise (net_of g) d d' entries' at) 10
  raises few w w' most n l set there round =
      let e = other_at in
      let a : d at ≤ equation (net_of g) d at = omega (arith, l, e, value) in
      let P : ℕ → Type 0 = λ x. IsSetTo d at x d' in
      let Q : ℕ → Type 0 = λ i. RoundRisen (net_of g) g.size v d' entries' i in
      let R : ℕ → Type 0 = λ x. (i : ℕ) → IsRisen (net_of g) x d' entries' at i in
      record {
        due = due_here g d key at spot v o here within value other is_key n;
        value = subst P (sym (next_below (equation (net_of g) d at) (d at) (suc g.limit) a)) set;
        kept = kept;
        queued = record { below = a; here = queued_here w w' set there most; risen = subst R value (risen_round g v d' entries' at (subst Q here round)) };
        few = few;
      }
