use Rattle.edit_plans.proofs.TouchedAlone.{others_are_kept, order_is_kept}
use Rattle.edit_plans.proofs.laws.touch_law.Goals as goal

pub returns-clause-others : goal.returns-clause-others
returns-clause-others c = others_are_kept

pub returns-clause-order : goal.returns-clause-order
returns-clause-order c = order_is_kept
