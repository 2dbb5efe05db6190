use Rattle.edit_plans.proofs.Restamped.{old_is_stamped, new_is_stamped}
use Rattle.edit_plans.proofs.laws.stamp_law.Goals as goal

pub returns-clause-old : goal.returns-clause-old
returns-clause-old c = old_is_stamped

pub returns-clause-new : goal.returns-clause-new
returns-clause-new c = new_is_stamped
