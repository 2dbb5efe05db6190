use Rattle.map_edits.proofs.Unfolds.{value_unfolds}
use Rattle.map_edits.proofs.Defined.{value_is_defined}
use Rattle.map_edits.proofs.LawfulValues.{others_keep_values}
use Rattle.map_edits.proofs.laws.value_law.Goals as goal

pub returns-clause-made : goal.returns-clause-made
returns-clause-made c = λ s n none. value_unfolds s none n

pub returns-clause-defined : goal.returns-clause-defined
returns-clause-defined c = λ s n none. value_is_defined s none n

pub returns-clause-others : goal.returns-clause-others
returns-clause-others c = others_keep_values
