use Rattle.edit_plans.proofs.Valued.{values_are_made}
use Rattle.edit_plans.proofs.laws.value_law.Goals as goal

pub returns : goal.returns
returns c = values_are_made
