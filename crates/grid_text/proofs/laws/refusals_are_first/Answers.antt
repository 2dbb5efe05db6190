use Rattle.grid_text.proofs.RefusalLaw.{refuses_all}
use Rattle.grid_text.proofs.laws.refusals_are_first.Goals as goal

pub returns : goal.returns
returns c = refuses_all
