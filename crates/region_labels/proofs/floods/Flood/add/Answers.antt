use Rattle.std.proofs.Common.{arith}
use Rattle.region_labels.proofs.Rows.{marks_most}
use Rattle.region_labels.proofs.floods.Flood.add.Goals as goal

pub overflow_add-self : goal.overflow_add-self
overflow_add-self c = omega (arith, marks_most c.self.inside.marks.marks, c.self.invariant, c.extent.ensures.count, c.extent.ensures.size.most_cells)
