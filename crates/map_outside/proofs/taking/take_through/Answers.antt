use Rattle.std.proofs.Common.{arith}
use Rattle.map_outside.proofs.taking.take_through.Goals as goal

pub returns-clause-bytes : goal.returns-clause-bytes
returns-clause-bytes g c = (c.loop-bytes.bytes.items, c.loop-bytes.invariant.taken, omega arith)
