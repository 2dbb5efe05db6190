use Rattle.map_defs.proofs.NearestCells.{nearest_is_law, nearest_only_law, nearest_from_steps_law, one_of_steps_law}
use Rattle.friction_neighbor.proofs.laws.nearest_law.Goals as goal

pub returns-clause-is : goal.returns-clause-is
returns-clause-is c = nearest_is_law

pub returns-clause-only : goal.returns-clause-only
returns-clause-only c = nearest_only_law

pub returns-clause-from_steps : goal.returns-clause-from_steps
returns-clause-from_steps c = nearest_from_steps_law

pub returns-clause-one : goal.returns-clause-one
returns-clause-one c = one_of_steps_law
