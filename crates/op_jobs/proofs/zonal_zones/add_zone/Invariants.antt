use Rattle.std.proofs.Common.{◌≡◌, ◌-◌, ◌^◌, ℕ, List}
use Rattle.map_nums.specs.Grids.{Cells}
use Rattle.zonal_totals.specs.Books.{IsBookOf}
use Rattle.op_jobs.specs.Zonal.{AreMarked}
use Rattle.op_jobs.specs.ZonalZones.{AreTilesOf, IsAmongFirst}
use Rattle.op_jobs.proofs.zonal_zones.add_zone.Given as goal

abbrev pub invariant-loop-tile : goal.invariant-loop-tile
invariant-loop-tile l = record {
  size : l.set.size ≡ l.initial.set.size;
  marks : (values zones : Cells) (list : List ℕ) → IsBookOf l.patch.after values zones → AreTilesOf l.book.size zones l.zone list → AreMarked l.book.size (IsAmongFirst list l.k) l.initial.set.marks l.set.marks;
}

abbrev pub decreases-loop-tile : goal.decreases-loop-tile
decreases-loop-tile l = 2 ^ 32 - l.k
