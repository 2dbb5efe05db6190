-- A place that left its old value has another least cost.
use Rattle.std.proofs.Common.{◌≡◌, ◌≢◌, ℕ, zero, suc, ◌<◌, ◌≤◌, arith, sym, ◌∙◌, inl, inr}
use Rattle.std.specs.Prelude.{◌==◌, if◌then◌else◌}
use Rattle.std.proofs.lemmas.Bool.Decides.{nat_tests}
use Rattle.map_defs.specs.Nets.{Net, IsLeastIn}
use Rattle.least_costs.specs.Ranks.{sum_to, changed}
use Rattle.least_costs.specs.Best.{IsBest, Ranked, same, raised, least}
use Rattle.least_costs.proofs.Equations.{same_or}

best_least : (g : Net) (i v w : ℕ) → v < g.top → IsBest g i v → IsLeastIn g i w → w ≡ v
best_least g i v w l b m =
    let high : w ≤ v = omega (arith, m.least b.path, b.costs) in
    let r = m.reached (omega (arith, high, l)) in
    omega (arith, high, b.least r.0, r.2)

pub moved_least : (g : Net) (i o v w : ℕ) → Ranked g i o v → o ≢ v → IsLeastIn g i w → o ≢ w
moved_least g i o v w (same e) n m = λ x. n (sym e)
moved_least g i o v w (raised e l p) n m = λ x. let r = m.reached (omega (arith, x, l)) in absurd (omega (arith, p r.0, r.2, x))
moved_least g i o v w (least l n b) _ m = λ x. n (sym (best_least g i v w l b m) ∙ sym x)

one_most : (o v w : ℕ) → (o ≢ v → o ≢ w) → (if o == v then 0 else 1) ≤ (if o == w then 0 else 1)
one_most o v w h = elim (same_or o v) as (λ _. (if o == v then 0 else 1) ≤ (if o == w then 0 else 1)) [
  | inl e ↦ grind (arith, nat_tests)
  | inr n ↦ (let m = h n in grind (arith, nat_tests))
]

pub sum_below : (f h : ℕ → ℕ) (n : ℕ) → ((j : ℕ) → f j ≤ h j) → sum_to f n ≤ sum_to h n
sum_below f h zero l = omega arith
sum_below f h (suc n) l = omega (arith, l n, sum_below f h n l)

-- no more places leave their old values than have another least cost
pub moved_most : (g : Net) (old d w : ℕ → ℕ) (n : ℕ) → ((i : ℕ) → Ranked g i (old i) (d i)) → ((i : ℕ) → IsLeastIn g i (w i)) → changed old d n ≤ changed old w n
unfolding changed
moved_most g old d w n ranked are_least = sum_below (λ j. if old j == d j then 0 else 1) (λ j. if old j == w j then 0 else 1) n (λ j. one_most (old j) (d j) (w j) (λ m. moved_least g j (old j) (d j) (w j) (ranked j) m (are_least j)))
