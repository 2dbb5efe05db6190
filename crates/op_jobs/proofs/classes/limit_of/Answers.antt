use Rattle.op_jobs.proofs.Repairing.{limit_value}
use Rattle.op_jobs.proofs.classes.limit_of.Goals as goal

pub returns : goal.returns
returns c = limit_value c.unsigned_abs.result c.args.limit c.requires c.unsigned_abs.ensures.value
