use Rattle.std.proofs.Common.{arith}
use Rattle.std.proofs.lemmas.Int.{ints, to_z-of_z}
use Rattle.map_nums.specs.Widths.{value_width}
use Rattle.local_ops.proofs.Twos.{minimum_of-right, minimum_of-left}
use Rattle.local_ops.proofs.pairs.lesser.Goals as goal

pub returns-then-right-left : goal.returns-then-right-left
returns-then-right-left c = rw (to_z-of_z value_width c.args.right c.ranges.right) (minimum_of-right c.args.left c.args.right (omega (arith, ints)))

pub returns-else-right-left : goal.returns-else-right-left
returns-else-right-left c = rw (to_z-of_z value_width c.args.left c.ranges.left) (minimum_of-left c.args.left c.args.right (omega (arith, ints)))
