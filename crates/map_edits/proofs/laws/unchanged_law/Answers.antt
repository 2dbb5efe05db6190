use Rattle.map_edits.proofs.Unchanged.{counts_nothing}
use Rattle.map_edits.proofs.laws.unchanged_law.Goals as goal

pub returns : goal.returns
returns c = counts_nothing
