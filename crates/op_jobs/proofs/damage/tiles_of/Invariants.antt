use Rattle.std.proofs.Common.{◌≡◌}
use Rattle.std.specs.List.{filter, range_with_len}
use Rattle.damage_sets.specs.Sets.{has_tile}
use Rattle.op_jobs.proofs.damage.tiles_of.Given as goal

abbrev pub invariant-loop-tile : goal.invariant-loop-tile
invariant-loop-tile l = l.list.items ≡ filter (has_tile l.set) (range_with_len 0 l.tile)
