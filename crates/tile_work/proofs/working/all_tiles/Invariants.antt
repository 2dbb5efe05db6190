use Rattle.std.proofs.Common.{◌≡◌, ℕ, ◌≤◌, [], None}
use Rattle.layer_tiles.specs.Patches.{IsAboveLast}
use Rattle.tile_work.specs.Working.{IsPatchOf, slot_at, work_cells, AreTileSeats, seated_tiles}
use Rattle.tile_work.proofs.working.all_tiles.Given as goal

abbrev pub invariant-loop-tile : goal.invariant-loop-tile
invariant-loop-tile l = record {
  size : l.patch.size ≡ l.extent;
  seats : AreTileSeats l.tiles.items l.seats;
  slots : (t : ℕ) → l.tile ≤ t → slot_at (seated_tiles l.tiles.items l.seats) t ≡ slot_at (seated_tiles l.initial.tiles.items l.seats) t;
  above : IsAboveLast l.patch.tiles l.tile;
  patch : IsPatchOf l.extent None (work_cells l.extent [] (seated_tiles l.initial.tiles.items l.seats)) l.tile l.patch.tiles;
}
