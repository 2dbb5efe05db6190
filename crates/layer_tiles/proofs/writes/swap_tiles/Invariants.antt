use Rattle.layer_tiles.proofs.Swapping.{Swapping}
use Rattle.layer_tiles.proofs.writes.swap_tiles.Given as goal

abbrev pub invariant-loop-at : goal.invariant-loop-at
invariant-loop-at l = Swapping l.fn.extent l.initial.entries l.initial.tiles l.entries l.tiles l.at
