use Rattle.std.proofs.Common.{◌≡◌, ℤ, IsFalse}
use Rattle.map_nums.specs.Answers.{is_wide}
use Rattle.map_nums.specs.Grids.{Cells}
use Rattle.map_defs.specs.Zonal.{zone_statistic}
use Rattle.zonal_totals.specs.Books.{IsBookOf}
use Rattle.op_jobs.specs.Zonal.{AreMarked}
use Rattle.op_jobs.specs.ZonalZones.{HasOtherZone}
use Rattle.op_jobs.proofs.zonal_zones.add_zones.Given as goal

abbrev pub invariant-loop-zone : goal.invariant-loop-zone
invariant-loop-zone l = record {
  size : l.set.size ≡ l.initial.set.size;
  marks : (values zones values' zones' : Cells) → IsBookOf l.book values zones → IsBookOf l.patch.after values' zones' → ((z : ℤ) → IsFalse (is_wide (zone_statistic l.stat l.book.size values zones z))) → AreMarked l.book.size (HasOtherZone l.stat l.book.size values zones values' zones' l.patch.zones l.zone-index) l.initial.set.marks l.set.marks;
}
