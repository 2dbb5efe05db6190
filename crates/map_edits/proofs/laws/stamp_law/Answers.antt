use Rattle.map_edits.proofs.Stamped.{stamps_are_kept}
use Rattle.map_edits.proofs.laws.stamp_law.Goals as goal

pub returns : goal.returns
returns c = stamps_are_kept
