use Rattle.std.proofs.Common.{refl}
use Rattle.map_defs.specs.Rounds.{spread_grid, spread_net}
use Rattle.map_defs.specs.Spread.{step_cost}
use Rattle.map_rows.proofs.spread.spread_rows.Goals as goal

pub returns : goal.returns
unfolding spread_grid spread_net step_cost
returns c = record { even = refl; risen = refl; twice = refl; barrier = refl; short = refl; null_barrier = refl; null_short = refl; two_by_two = refl; around = refl; through = refl; smallest = refl; nearest = refl }
