use Rattle.std.proofs.Common.{◌+◌, ◌*◌, arith}
use Rattle.focal_ops.proofs.Powers.{few_levels}
use Rattle.focal_ops.proofs.extremes.extremes_tile.Goals as goal

pub fill_tables-requires-clause-few : goal.fill_tables-requires-clause-few
fill_tables-requires-clause-few c = omega (arith, few_levels (2 * c.args.mask.now.reach + 1) c.ilog2-levels.result c.ilog2-levels.ensures.power_le (omega (arith, c.requires.mask.few)))
