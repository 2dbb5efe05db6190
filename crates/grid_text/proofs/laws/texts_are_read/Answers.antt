use Rattle.grid_text.proofs.GrammarLaw.{reads_all}
use Rattle.grid_text.proofs.laws.texts_are_read.Goals as goal

pub returns : goal.returns
returns c = reads_all
