use Rattle.zonal_totals.proofs.Unlisted.{unlisted}
use Rattle.zonal_totals.proofs.laws.unlisted_zones_law.Goals as goal

pub returns : goal.returns
returns c = unlisted
