use Rattle.edit_plans.proofs.Faulted.{first_fault_is_told, no_fault_is_none}
use Rattle.edit_plans.proofs.laws.fault_law.Goals as goal

pub returns-clause-first : goal.returns-clause-first
returns-clause-first c = first_fault_is_told

pub returns-clause-none : goal.returns-clause-none
returns-clause-none c = no_fault_is_none
