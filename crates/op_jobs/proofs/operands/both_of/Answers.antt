use Rattle.op_jobs.proofs.Repairing.{both_are}
use Rattle.op_jobs.proofs.operands.both_of.Goals as goal

pub returns : goal.returns
returns c = both_are c.args.operands.now c.at.result.now c.at-2.result.now c.requires c.at.ensures c.at-2.ensures
