use Rattle.map_edits.proofs.Limited.{few_stay}
use Rattle.map_edits.proofs.laws.limit_law.Goals as goal

pub returns : goal.returns
returns c = few_stay
