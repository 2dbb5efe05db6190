-- How the steps grow.
use Rattle.std.proofs.Common.{◌≡◌, ◌+◌, ◌≤◌, Bool, true, false, cond, List, Option, Some, sym, ◌∙◌, ap, arith, ℤ, pos, negsuc, ◌+ℤ◌, ◌-ℤ◌}
use Rattle.std.proofs.lemmas.Int.{ints}
use Rattle.zonal_totals.specs.declared.pairs.Pair.{Pair}
use Rattle.zonal_totals.specs.declared.steps.Step.{Step}
use Rattle.zonal_totals.specs.Pairs.{same_pair}
use Rattle.zonal_totals.specs.Steps.{net_in, weight}
use Rattle.zonal_totals.specs.Settled.{put_step}
use Rattle.zonal_totals.specs.Sums.{held}
use Rattle.zonal_totals.proofs.Settling.{put_net, put_weight}

abbrev step_of : Pair → ℤ → Step
step_of q z = record { pair = q; by = z }

module _ (old new : List Step) (q : Pair) (o : Option Pair) (is : o ≡ Some q) where
  pub enter_net : new ≡ put_step old (step_of q (pos 1)) → (p : Pair) → net_in new p ≡ net_in old p +ℤ held p o
  enter_net e p = ap (λ (l : List Step). net_in l p) e ∙ put_net old (step_of q (pos 1)) p ∙ ap (λ (x : Option Pair). net_in old p +ℤ held p x) (sym is)

  pub enter_weight : new ≡ put_step old (step_of q (pos 1)) → weight new ≤ weight old + 1
  enter_weight e = omega (arith, ap weight e, put_weight old (step_of q (pos 1)))

  less : (n : ℤ) (b : Bool) → n +ℤ cond b (negsuc 0) (pos 0) ≡ n -ℤ cond b (pos 1) (pos 0)
  less n true = omega (arith, ints)
  less n false = omega (arith, ints)

  pub leave_net : new ≡ put_step old (step_of q (negsuc 0)) → (p : Pair) → net_in new p ≡ net_in old p -ℤ held p o
  leave_net e p = ap (λ (l : List Step). net_in l p) e ∙ put_net old (step_of q (negsuc 0)) p ∙ less (net_in old p) (same_pair q p) ∙ ap (λ (x : Option Pair). net_in old p -ℤ held p x) (sym is)

  pub leave_weight : new ≡ put_step old (step_of q (negsuc 0)) → weight new ≤ weight old + 1
  leave_weight e = omega (arith, ap weight e, put_weight old (step_of q (negsuc 0)))
