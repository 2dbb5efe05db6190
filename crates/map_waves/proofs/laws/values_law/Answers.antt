use Rattle.map_waves.proofs.Righted.{values_are, operands_are_values}
use Rattle.map_waves.proofs.laws.values_law.Goals as goal

pub returns-clause-values : goal.returns-clause-values
returns-clause-values c p op_of value name n plan unfolds k below = values_are p op_of value name n plan unfolds k below

pub returns-clause-operands : goal.returns-clause-operands
returns-clause-operands c p op_of value name n plan unfolds k below = operands_are_values p op_of value name n plan unfolds k below
