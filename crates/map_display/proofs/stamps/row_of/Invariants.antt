use Rattle.std.proofs.Common.{◌≡◌, ◌*◌, take, drop}
use Rattle.layer_tiles.specs.Tiles.{tiles_across}
use Rattle.map_display.proofs.stamps.row_of.Given as goal

abbrev pub invariant-loop-k : goal.invariant-loop-k
invariant-loop-k l = l.row.items ≡ take l.k (drop (l.r * tiles_across l.layer.size) l.layer.stamps)
