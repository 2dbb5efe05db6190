use Rattle.std.proofs.Common.{rules}
use Rattle.std.proofs.lemmas.Option.{IfSome_then}
use Rattle.drainage_flow.proofs.Entries.{few_popped, few_left}
use Rattle.drainage_flow.proofs.queue.Queue.pop.Goals as goal

pub invariant_of-self : goal.invariant_of-self
invariant_of-self c = (search rules, few_left _ c.pop.result _ _ c.self.invariant.1 c.pop.ensures.permutation c.pop.ensures.unchanged)

pub returns-clause-amount : goal.returns-clause-amount
returns-clause-amount c = IfSome_then c.pop.result c.pop.ensures.permutation (λ x p. (few_popped x _ _ c.self.invariant.1 p).0)
