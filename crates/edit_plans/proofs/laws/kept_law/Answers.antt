use Rattle.edit_plans.proofs.RightBefore.{kept_is_right}
use Rattle.edit_plans.proofs.laws.kept_law.Goals as goal

pub returns : goal.returns
returns g c = kept_is_right g.K.Maker.suits
