use Rattle.std.proofs.Common.{◌≡◌, sym, ◌∙◌, ap, subst, arith, List, rules, Result, Ok, Err, IfOk, Vec, Global}
use Rattle.map_nums.specs.declared.NoMemory.{NoMemory}
use Rattle.std.specs.Ordering.{int_cmp, is_lt}
use Rattle.std.specs.Cmp.{int_cmp_total}
use Rattle.std.specs.List.Sorted.{IsSortedBy}
use Rattle.std.proofs.lemmas.Result.{IfOk-weaker}
use Rattle.std.proofs.lemmas.List.Sorted.{ranks_by, answers_always}
use Rattle.zonal_totals.specs.declared.steps.Step.{Step}
use Rattle.zonal_totals.specs.Pairs.{rank, floor}
use Rattle.zonal_totals.specs.Steps.{net_in, weight, StepsClimb, AllShort}
use Rattle.zonal_totals.specs.Settled.{settled}
use Rattle.zonal_totals.proofs.Settling.{settled_net, settled_weight, settled_climbs, rises_sorted, net-permutation, weight-permutation}
use Rattle.zonal_totals.proofs.steps.settle.Goals as goal

pub gathered-requires : goal.gathered-requires
gathered-requires c =
    omega (arith, c.requires, ap weight c.deref.ensures.value, weight-permutation c.args.steps.items c.sort_unstable_by.new.self.items c.sort_unstable_by.ensures.permutation)

pub returns-clause-order : goal.returns-clause-order
returns-clause-order c =
    let by = λ (s : Step). rank s.pair in
    let sorted = c.sort_unstable_by.ensures.sorted (λ (s t : Step). is_lt (int_cmp (by s) (by t))) (ranks_by int_cmp_total by) (answers_always _ _ _ (λ f a r f' q. search rules)) in
    let here = c.deref.ensures.value in
    let up : IsSortedBy (λ (s t : Step). is_lt (int_cmp (by s) (by t))) c.deref.result.now = subst (λ (l : List Step). IsSortedBy (λ (s t : Step). is_lt (int_cmp (by s) (by t))) l) (sym here) sorted in
    ordered c.gathered.result c.deref.result.now up c.gathered.ensures.steps c.gathered.ensures.short
  where
    ordered : (r : Result (Vec Step Global) NoMemory) (ss : List Step) → IsSortedBy (λ (s t : Step). is_lt (int_cmp (rank s.pair) (rank t.pair))) ss → IfOk r (λ v. v.items ≡ settled ss) → IfOk r (λ v. AllShort ss) → IfOk r (λ v. StepsClimb floor v.items)
    ordered (Ok v) ss up e k = subst (λ (l : List Step). StepsClimb floor l) (sym e) (settled_climbs ss (rises_sorted ss k up) k)
    ordered (Err x) ss up e k = tt

pub returns-clause-net : goal.returns-clause-net
returns-clause-net c =
    let same = net-permutation c.args.steps.items c.sort_unstable_by.new.self.items c.sort_unstable_by.ensures.permutation in
    let here = c.deref.ensures.value in
    IfOk-weaker c.gathered.result _ _ (λ v e p. ap (λ (l : List Step). net_in l p) e ∙ settled_net c.deref.result.now p ∙ ap (λ (l : List Step). net_in l p) here ∙ sym (same p)) c.gathered.ensures.steps

pub returns-clause-weight : goal.returns-clause-weight
returns-clause-weight c =
    let same = weight-permutation c.args.steps.items c.sort_unstable_by.new.self.items c.sort_unstable_by.ensures.permutation in
    IfOk-weaker c.gathered.result _ _ (λ v e. omega (arith, ap weight e, settled_weight c.deref.result.now, ap weight c.deref.ensures.value, same)) c.gathered.ensures.steps
