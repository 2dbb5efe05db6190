use Rattle.std.proofs.Common.{rules}
use Rattle.map_sample.proofs.grids.SampleGrid.put_row.Goals as goal

pub returns-in-Height : goal.returns-in-Height
returns-in-Height c = λ k l. let cell = c.put_cells.ensures k l in rw (c.in-Height.is) (search rules)

pub returns-in-Friction : goal.returns-in-Friction
returns-in-Friction c = λ k l. let cell = c.put_cells-in-Friction.ensures k l in rw (c.in-Friction.is) (search rules)

pub returns-in-Start : goal.returns-in-Start
returns-in-Start c = λ k l. let cell = c.put_cells-in-Start.ensures k l in rw (c.in-Start.is) (search rules)

pub returns-in-Zone : goal.returns-in-Zone
returns-in-Zone c = λ k l. let cell = c.put_cells-in-Zone.ensures k l in rw (c.in-Zone.is) (search rules)
