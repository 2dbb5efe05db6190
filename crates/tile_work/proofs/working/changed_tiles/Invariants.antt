use Rattle.std.proofs.Common.{◌≡◌, ℕ, ◌≤◌, Some}
use Rattle.layer_tiles.specs.Patches.{IsAboveLast}
use Rattle.layer_tiles.specs.Tiles.{tiles_in}
use Rattle.layer_tiles.specs.Tallies.{RisesBy}
use Rattle.tile_work.specs.Working.{IsPatchOf, slot_at, work_cells, AreTileSeats, seated_tiles}
use Rattle.tile_work.proofs.Numbers.{ArePast, AreAhead}
use Rattle.tile_work.proofs.working.changed_tiles.Given as goal

abbrev pub invariant-loop-number : goal.invariant-loop-number
invariant-loop-number g l = record {
  size : l.patch.size ≡ l.layer.size;
  seats : AreTileSeats l.tiles.items l.seats;
  slots : (t : ℕ) → ArePast l.numbers l.number-index t → slot_at (seated_tiles l.tiles.items l.seats) t ≡ slot_at (seated_tiles l.initial.tiles.items l.seats) t;
  above : (n : ℕ) → ArePast l.numbers l.number-index n → IsAboveLast l.patch.tiles n;
  patch : (n : ℕ) → n ≤ tiles_in l.layer.size → ArePast l.numbers l.number-index n → AreAhead l.numbers l.number-index n → IsPatchOf l.layer.size (Some l.layer.cells) (work_cells l.layer.size l.layer.cells (seated_tiles l.initial.tiles.items l.seats)) n l.patch.tiles;
  looks : RisesBy l.number-index 0 (g.M.Tally.counts l.initial.tally) (g.M.Tally.counts l.tally);
}
