use Rattle.region_labels.proofs.Cutting.{AreRowsCut}
use Rattle.region_labels.proofs.cuts.tile_of.Given as goal

abbrev pub invariant-loop-r : goal.invariant-loop-r
invariant-loop-r l = AreRowsCut l.fn.extent l.labels l.tile l.r l.made
