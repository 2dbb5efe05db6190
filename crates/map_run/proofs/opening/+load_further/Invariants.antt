use Rattle.std.proofs.Common.{length}
use Rattle.map_run.proofs.opening.+load_further.Given as goal

abbrev pub decreases-load_further : goal.decreases-load_further
decreases-load_further g l = length l.pairs.now
