use Rattle.map_machine.proofs.Undoing.{undos_lead_back}
use Rattle.map_machine.proofs.undo_law.Goals as goal

pub returns : goal.returns
returns c = undos_lead_back
