use Rattle.map_edits.proofs.Cuts.{none_is_deeper, accepted_reads, fault_reads, other_reads}
use Rattle.map_edits.proofs.laws.allowance_law.Goals as goal

pub returns-clause-accepted : goal.returns-clause-accepted
returns-clause-accepted c = accepted_reads

pub returns-clause-fault : goal.returns-clause-fault
returns-clause-fault c = fault_reads

pub returns-clause-other : goal.returns-clause-other
returns-clause-other c = other_reads

pub returns-clause-deepest : goal.returns-clause-deepest
returns-clause-deepest c = none_is_deeper
