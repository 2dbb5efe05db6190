use Rattle.std.proofs.Common.{rules}
use Rattle.local_ops.proofs.Ones.{statistic_of-one}
use Rattle.local_ops.proofs.pairs.statistic_of_one.Goals as goal

pub returns-in_default : goal.returns-in_default
returns-in_default c = rw (statistic_of-one c.args.stat c.args.value c.in_default.not-Variety) (search rules)
