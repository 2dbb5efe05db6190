use Rattle.map_edits.proofs.LawfulEdits.{lawful_stays}
use Rattle.map_edits.proofs.LawfulFaults.{no_fault_stays}
use Rattle.map_edits.proofs.LawfulValues.{none_is_lawful}
use Rattle.map_edits.proofs.laws.lawful_law.Goals as goal

pub returns-clause-lawful : goal.returns-clause-lawful
returns-clause-lawful c = lawful_stays

pub returns-clause-faultless : goal.returns-clause-faultless
returns-clause-faultless c = no_fault_stays

pub returns-clause-first : goal.returns-clause-first
returns-clause-first c = none_is_lawful
