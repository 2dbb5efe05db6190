use Rattle.std.proofs.Common.{◌≡◌, take}
use Rattle.layer_tiles.proofs.shared.shared_tiles.Given as goal

abbrev pub invariant-loop-entry : goal.invariant-loop-entry
invariant-loop-entry l = l.copy.items ≡ take l.entry-index l.tiles
