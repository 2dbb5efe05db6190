use Rattle.map_edits.proofs.Summed.{depth_is_place}
use Rattle.map_edits.proofs.laws.depth_law.Goals as goal

pub returns : goal.returns
returns c = depth_is_place
