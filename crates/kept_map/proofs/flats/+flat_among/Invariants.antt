use Rattle.std.proofs.Common.{length}
use Rattle.kept_map.proofs.flats.+flat_among.Given as goal

abbrev pub decreases-flat_among : goal.decreases-flat_among
decreases-flat_among l = length l.flats.now
