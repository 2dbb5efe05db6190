use Rattle.edit_plans.proofs.Reading.{reads_are_allowed}
use Rattle.edit_plans.proofs.laws.read_law.Goals as goal

pub returns : goal.returns
returns c = reads_are_allowed
