use Rattle.edit_plans.proofs.CountsSummed.{counts_are_summed}
use Rattle.edit_plans.proofs.OneSource.{one_source_counts}
use Rattle.edit_plans.proofs.laws.count_law.Goals as goal

pub returns-clause-summed : goal.returns-clause-summed
returns-clause-summed c = counts_are_summed

pub returns-clause-sources : goal.returns-clause-sources
returns-clause-sources c = one_source_counts
