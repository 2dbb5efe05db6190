use Rattle.std.proofs.Common.{arith}
use Rattle.std.proofs.lemmas.Int.{ints, to_z-of_z}
use Rattle.map_nums.specs.Widths.{value_width}
use Rattle.local_ops.proofs.Twos.{maximum_of-right, maximum_of-left}
use Rattle.local_ops.proofs.pairs.greater.Goals as goal

pub returns-then-left-right : goal.returns-then-left-right
returns-then-left-right c = rw (to_z-of_z value_width c.args.right c.ranges.right) (maximum_of-right c.args.left c.args.right (omega (arith, ints)))

pub returns-else-left-right : goal.returns-else-left-right
returns-else-left-right c = rw (to_z-of_z value_width c.args.left c.ranges.left) (maximum_of-left c.args.left c.args.right (omega (arith, ints)))
