use Rattle.std.proofs.Common.{◌≡◌, ◌*◌, take}
use Rattle.layer_tiles.proofs.views.TileView.to_tile.Given as goal

abbrev pub invariant-loop-r : goal.invariant-loop-r
invariant-loop-r l = l.cells.items ≡ take (l.r * l.self.width) l.self.cells
