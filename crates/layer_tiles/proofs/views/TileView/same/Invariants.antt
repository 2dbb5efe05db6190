use Rattle.std.proofs.Common.{◌≡◌, ℕ, ◌<◌}
use Rattle.layer_tiles.specs.Tiles.{block_row}
use Rattle.layer_tiles.proofs.views.TileView.same.Given as goal

abbrev pub invariant-loop-r : goal.invariant-loop-r
invariant-loop-r l = (k : ℕ) → k < l.r → block_row l.self k ≡ block_row l.other k
