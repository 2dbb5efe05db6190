use Rattle.op_jobs.specs.Grounds.{IsGroundOf, AreGrounded}
use Rattle.op_jobs.specs.Lists.{IsFreshMade}
use Rattle.op_jobs.proofs.Owned.{at_some, fresh_jobs}
use Rattle.op_jobs.proofs.owning.fresh_own.Goals as goal

pub returns-clause-made : goal.returns-clause-made
returns-clause-made c = λ op operands works ranges found.
    let q = at_some (λ q. IsGroundOf op q.0 × AreGrounded c.args.extent operands q.0 q.1.items) c.args.found _ c.in-Some.is found in
    let fresh = at_some (IsFreshMade c.args.extent op operands) c.in_ok-fresh.field-0 c.in-Some-2.fresh c.in-Some-2.is (c.in_ok-fresh.ensures.made op operands q.0 ranges q.1.from) in
    fresh_jobs c.args.extent op operands c.in_ok-tiles.tiles c.in-Some-2.fresh works fresh c.in_ok-tiles.ensures
