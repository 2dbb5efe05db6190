use Rattle.least_costs.proofs.Queues.{pushed_kept, pushed_there, pushed_length}
use Rattle.friction_spread.proofs.deals.offer_cost.Goals as goal

pub returns-in_ok-push-clause-kept : goal.returns-in_ok-push-clause-kept
returns-in_ok-push-clause-kept c = pushed_kept _ _ _ c.in_ok-push.ensures

pub returns-in_ok-push-clause-there : goal.returns-in_ok-push-clause-there
returns-in_ok-push-clause-there c = λ _. pushed_there _ _ _ c.in_ok-push.ensures

pub returns-in_ok-push-clause-len : goal.returns-in_ok-push-clause-len
returns-in_ok-push-clause-len c = pushed_length _ _ _ c.in_ok-push.ensures
