use Rattle.op_jobs.proofs.Repairing.{only_is}
use Rattle.op_jobs.proofs.operands.only_of.Goals as goal

pub returns : goal.returns
returns c = only_is c.args.operands.now c.at.result.now c.requires c.at.ensures
