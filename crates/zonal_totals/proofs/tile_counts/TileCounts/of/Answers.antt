use Rattle.std.proofs.Common.{◌-◌, arith}
use Rattle.zonal_totals.proofs.Ranging.{small_counts}
use Rattle.zonal_totals.proofs.tile_counts.TileCounts.of.Goals as goal

pub settle-requires : goal.settle-requires
settle-requires g c = omega (arith, c.in_ok-draft.ensures.value_weight, small_counts c.args.zones.now.size (c.args.end - c.args.first) c.extent-size.ensures.size (omega (arith, c.requires.within)))

pub settle-requires-2 : goal.settle-requires-2
settle-requires-2 g c = omega (arith, c.in_ok-draft.ensures.tile_weight, small_counts c.args.zones.now.size (c.args.end - c.args.first) c.extent-size.ensures.size (omega (arith, c.requires.within)))
