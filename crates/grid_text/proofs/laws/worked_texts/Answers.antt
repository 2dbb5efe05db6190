use Rattle.grid_text.proofs.WorkedTexts.{rows}
use Rattle.grid_text.proofs.laws.worked_texts.Goals as goal

pub returns : goal.returns
returns c = rows
