use Rattle.std.proofs.Common.{◌≡◌, ◌+◌, ◌*◌}
use Rattle.map_nums.specs.Grids.{Cells}
use Rattle.layer_tiles.specs.Tiles.{tile_block}
use Rattle.changed_cells.specs.Changed.{AreChangedTo}
use Rattle.changed_cells.proofs.changes.add_rows.Given as goal

abbrev pub invariant-loop-r : goal.invariant-loop-r
invariant-loop-r l = (b a : Cells) → l.before ≡ tile_block l.extent b l.tile → l.after ≡ tile_block l.extent a l.tile → AreChangedTo l.extent b a (l.tile * 1024) l.initial.found.items → AreChangedTo l.extent b a (l.tile * 1024 + l.r * 32) l.found.items
