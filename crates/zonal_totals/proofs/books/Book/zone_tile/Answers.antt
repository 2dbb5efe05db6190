use Rattle.std.proofs.lemmas.Int.{to_z-of_z}
use Rattle.map_nums.specs.Widths.{value_width}
use Rattle.zonal_totals.proofs.Tiling.{part_tile}
use Rattle.zonal_totals.proofs.books.Book.zone_tile.Goals as goal

pub returns : goal.returns
returns c = λ values zones. part_tile _ _ values zones c.args.zone _ c.part.result.entries.now c.args.k c.nth_tile.result c.tiles-size.ensures.size c.self.view_is (to_z-of_z value_width c.args.zone c.ranges.zone) c.part.ensures.part c.part.ensures.order c.nth_tile.ensures
