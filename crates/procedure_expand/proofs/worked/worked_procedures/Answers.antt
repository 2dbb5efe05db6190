use Rattle.procedure_expand.proofs.WorkedBodies.{may_be_called}
use Rattle.procedure_expand.proofs.worked.worked_procedures.Goals as goal

pub returns : goal.returns
returns c = may_be_called
