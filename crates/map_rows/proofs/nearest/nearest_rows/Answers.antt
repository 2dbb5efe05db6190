use Rattle.std.proofs.Common.{refl}
use Rattle.map_nums.specs.Stats.{minimum_of}
use Rattle.map_defs.specs.Nearest.{nearest_grid}
use Rattle.map_defs.specs.Rounds.{spread_grid, spread_net}
use Rattle.map_defs.specs.Spread.{step_cost}
use Rattle.map_rows.proofs.nearest.nearest_rows.Goals as goal

pub returns : goal.returns
unfolding nearest_grid spread_grid spread_net step_cost minimum_of
returns c = record { even = refl; second_risen = refl; fourth_too = refl; one_end = refl; sources = refl; limited = refl; square = refl }
