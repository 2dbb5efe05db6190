use Rattle.std.proofs.Common.{length}
use Rattle.map_run.proofs.sample.+load_grids.Given as goal

abbrev pub decreases-load_grids : goal.decreases-load_grids
decreases-load_grids g l = length l.grids.now
