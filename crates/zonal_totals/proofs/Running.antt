-- Counts that rise by one place at a time.
use Rattle.std.proofs.Common.{◌≡◌, ℕ, zero, suc, ◌+◌, ◌<◌, ◌≤◌, ◌^◌, Bool, true, false, cond, List, [], ◌∷◌, ◌++◌, length, get_or, replicate, Option, Some, refl, sym, ◌∙◌, ap, arith, ℤ, pos, ◌+ℤ◌}
use Rattle.std.specs.Prelude.{slice_set}
use Rattle.std.proofs.lemmas.Int.{ints}
use Rattle.zonal_totals.specs.declared.pairs.Pair.{Pair}
use Rattle.zonal_totals.specs.declared.steps.Step.{Step}
use Rattle.zonal_totals.specs.Pairs.{same_pair}
use Rattle.zonal_totals.specs.Settled.{kept, put_step}
use Rattle.zonal_totals.specs.Steps.{step_at, net_in, size, weight}
use Rattle.zonal_totals.specs.Sums.{held}
use Rattle.zonal_totals.proofs.Merging.{net_join}
use Rattle.zonal_totals.proofs.Settling.{kept_net, kept_weight, put_net, put_weight, size_sum, weight_at, weight_join}

-- a step in the place of another one
net_set : (ss : List Step) (i : ℕ) (s d : Step) (p : Pair) → i < length ss → net_in (slice_set ss i s) p +ℤ step_at (get_or ss i d) p ≡ net_in ss p +ℤ step_at s p
net_set [] i s d p h = absurd (omega arith)
net_set (t ∷ ss) zero s d p h = omega (arith, ints)
net_set (t ∷ ss) (suc i) s d p h = omega (arith, ints, net_set ss i s d p (omega arith))

weight_set : (ss : List Step) (i : ℕ) (s d : Step) → i < length ss → weight (slice_set ss i s) + size (get_or ss i d).by ≡ weight ss + size s.by
weight_set [] i s d h = absurd (omega arith)
weight_set (t ∷ ss) zero s d h = omega arith
weight_set (t ∷ ss) (suc i) s d h = omega (arith, weight_set ss i s d (omega arith))

none_at : (b : Bool) → cond b (pos 0) (pos 0) ≡ pos 0
none_at true = refl
none_at false = refl

pub nothing_net : (n : ℕ) (q p : Pair) → net_in (replicate n (record { pair = q; by = pos 0 })) p ≡ pos 0
nothing_net zero q p = refl
nothing_net (suc n) q p = omega (arith, ints, nothing_net n q p, none_at (same_pair q p))

pub nothing_weight : (n : ℕ) (q : Pair) → weight (replicate n (record { pair = q; by = pos 0 })) ≡ 0
nothing_weight zero q = refl
nothing_weight (suc n) q = omega (arith, nothing_weight n q)

one_more : (b : Bool) (z : ℤ) → cond b (z +ℤ pos 1) (pos 0) ≡ cond b z (pos 0) +ℤ cond b (pos 1) (pos 0)
one_more true z = refl
one_more false z = refl

module _ (rs ss : List Step) (q : Pair) (o : Option Pair) (is : o ≡ Some q) where
  abbrev one : Step
  one = record { pair = q; by = pos 1 }

  held_one : (p : Pair) → held p o ≡ step_at one p
  held_one p = ap (held p) is

  -- one more step among the others
  pub behind_net : (us : List Step) → us ≡ put_step ss one → (p : Pair) → net_in (rs ++ us) p ≡ net_in (rs ++ ss) p +ℤ held p o
  behind_net us e p = omega (arith, ints, net_join rs us p, net_join rs ss p, ap (λ (l : List Step). net_in l p) e, put_net ss one p, held_one p)

  pub behind_weight : (us : List Step) → us ≡ put_step ss one → weight (rs ++ us) ≤ weight (rs ++ ss) + 1
  behind_weight us e = omega (arith, weight_join rs us, weight_join rs ss, ap weight e, put_weight ss one)

  module _ (i : ℕ) (before : Step) (there : i < length rs) (at : before ≡ get_or rs i before) where
    abbrev more : Step
    more = record { pair = q; by = before.by +ℤ pos 1 }

    pub slot_fits : weight (rs ++ ss) + 1 < 2 ^ 31 → size before.by + 1 < 2 ^ 31
    slot_fits h = omega (arith, h, weight_join rs ss, weight_at rs i before there, ap (λ (s : Step). size s.by) at)

    -- the slot's count is of the pair
    more_net : before.pair ≡ q → (p : Pair) → step_at more p ≡ step_at before p +ℤ step_at one p
    more_net e p = one_more (same_pair q p) before.by ∙ ap (λ (x : Pair). cond (same_pair x p) before.by (pos 0) +ℤ step_at one p) (sym e)

    pub same_net : before.pair ≡ q → (s : Step) → s ≡ more → (p : Pair) → net_in (slice_set rs i s ++ ss) p ≡ net_in (rs ++ ss) p +ℤ held p o
    same_net e s f p =
        omega (arith, ints, net_join (slice_set rs i s) ss p, net_join rs ss p, net_set rs i s before p there, ap (λ (x : Step). step_at x p) at, ap (λ (x : Step). step_at x p) f, more_net e p, held_one p)

    pub same_weight : (s : Step) → s ≡ more → weight (slice_set rs i s ++ ss) ≤ weight (rs ++ ss) + 1
    same_weight s f =
        omega (arith, weight_join (slice_set rs i s) ss, weight_join rs ss, weight_set rs i s before there, ap (λ (x : Step). size x.by) at, ap (λ (x : Step). size x.by) f, size_sum before.by (pos 1))

    -- it is of another pair, and goes to the others
    pub other_net : (us : List Step) → us ≡ ss ++ kept before → (p : Pair) → net_in (slice_set rs i one ++ us) p ≡ net_in (rs ++ ss) p +ℤ held p o
    other_net us e p =
        omega (arith, ints, net_join (slice_set rs i one) us p, net_join rs ss p, net_set rs i one before p there, ap (λ (x : Step). step_at x p) at, ap (λ (l : List Step). net_in l p) e, net_join ss (kept before) p, kept_net before p, held_one p)

    pub other_weight : (us : List Step) → us ≡ ss ++ kept before → weight (slice_set rs i one ++ us) ≤ weight (rs ++ ss) + 1
    other_weight us e =
        omega (arith, weight_join (slice_set rs i one) us, weight_join rs ss, weight_set rs i one before there, ap (λ (x : Step). size x.by) at, ap weight e, weight_join ss (kept before), kept_weight before)
