use Rattle.std.proofs.lemmas.Result.{IfOk-weaker}
use Rattle.op_jobs.proofs.Sharing.{size_is, reached_some}
use Rattle.op_jobs.proofs.damage.reached_tiles.Goals as goal

pub returns-in-Some-clause-set : goal.returns-in-Some-clause-set
returns-in-Some-clause-set g c =
    let size = size_is c.args.extent c.args.operands.now c.requires.some c.requires.operands_are in
    IfOk-weaker c.damaged.result _ _ (λ set e. reached_some c.args.reach c.args.extent c.args.operands.now c.args.kept c.in-Some.field-0 set c.in-Some.is size e) c.damaged.ensures.damage
