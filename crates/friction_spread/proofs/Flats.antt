-- Costs in lists.
use Rattle.std.proofs.Common.{◌≡◌, ℕ, zero, suc, ◌+◌, ◌<◌, ◌≤◌, List, length, get_or, refl, ◌∙◌, ap, subst, arith}
use Rattle.std.specs.Prelude.{slice_set, ◌==◌, if◌then◌else◌}
use Rattle.std.proofs.lemmas.List.{get_or_default, get_or_past, get_or-set_same, get_or-set_other}
use Rattle.least_costs.specs.Queue.{IsSetTo}
use Rattle.least_costs.specs.Filling.{IsFilling}
use Rattle.least_costs.specs.Ranks.{sum_to, changed}
use Rattle.friction_spread.specs.Costs.{GroundState, net_of}
use Rattle.friction_spread.specs.Flat.{costs_of}

-- ---- costs

pub cost_read : (g : GroundState) (costs : List ℕ) (i : ℕ) → i < length costs → get_or costs i 0 ≡ costs_of g costs i
cost_read g costs i l = get_or_default costs i 0 (suc g.limit) l

pub cost_past : (g : GroundState) (costs : List ℕ) (i : ℕ) → length costs ≤ i → costs_of g costs i ≡ suc g.limit
cost_past g costs i l = get_or_past costs i (suc g.limit) l

pub cost_set : (g : GroundState) (costs new : List ℕ) (at v : ℕ) → at < length costs → new ≡ slice_set costs at v → IsSetTo (costs_of g costs) at v (costs_of g new)
cost_set g costs new at v l e = record {
  here = ap (λ xs. costs_of g xs at) e ∙ get_or-set_same costs at v (suc g.limit) l;
  other = λ j n. ap (λ xs. costs_of g xs j) e ∙ get_or-set_other costs at j v (suc g.limit) n;
}

-- nothing has a cost yet
pub none_tried : (g : GroundState) (d : ℕ → ℕ) (entries : List (ℕ × ℕ)) → ((i : ℕ) → d i ≡ suc g.limit) → IsFilling (net_of g) d entries
none_tried g d entries none = record { most = λ i. omega (arith, none i); reached = λ i l. absurd (omega (arith, l, none i)); tried = λ i l. absurd (omega (arith, l, none i)) }

-- ---- places whose costs are others

pub changed_begun : (o d : ℕ → ℕ) → 0 ≡ changed o d 0
unfolding changed
changed_begun o d = refl

pub changed_more : (o d : ℕ → ℕ) (n m k : ℕ) → m ≡ changed o d n → k ≡ (if o n == d n then 0 else 1) → m + k ≡ changed o d (n + 1)
unfolding changed
changed_more o d n m k e f =
    let P : ℕ → Type 0 = λ x. m + k ≡ sum_to (λ j. if o j == d j then 0 else 1) x in
    let q : suc n ≡ n + 1 = omega arith in
    subst P q (omega (arith, e, f))

sum_alike : (f f' : ℕ → ℕ) (n : ℕ) → ((j : ℕ) → j < n → f j ≡ f' j) → sum_to f n ≡ sum_to f' n
sum_alike f f' zero h = refl
sum_alike f f' (suc n) h = omega (arith, h n (omega arith), sum_alike f f' n (λ j l. h j (omega (arith, l))))

pub changed_alike : (o d d' : ℕ → ℕ) (n : ℕ) → ((j : ℕ) → j < n → d j ≡ d' j) → changed o d n ≡ changed o d' n
unfolding changed
changed_alike o d d' n h = sum_alike (λ j. if o j == d j then 0 else 1) (λ j. if o j == d' j then 0 else 1) n (λ j l. ap (λ x. if o j == x then 0 else 1) (h j l))
