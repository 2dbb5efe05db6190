use Rattle.statement_parser.specs.Formed.{IsOp}
use Rattle.edit_plans.proofs.Forming.{planned_is_plan}
use Rattle.edit_plans.proofs.Ordered.{planned_is_in_order, depths_rise}
use Rattle.edit_plans.proofs.laws.planned_law.Goals as goal

pub returns-clause-plan : goal.returns-clause-plan
returns-clause-plan g c = planned_is_plan

pub returns-clause-order : goal.returns-clause-order
returns-clause-order g c = planned_is_in_order IsOp

pub returns-clause-rise : goal.returns-clause-rise
returns-clause-rise g c = depths_rise
