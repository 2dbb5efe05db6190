use Rattle.grid_text.proofs.SettledTexts.{settled}
use Rattle.grid_text.proofs.laws.texts_are_settled.Goals as goal

pub returns : goal.returns
returns c = settled
