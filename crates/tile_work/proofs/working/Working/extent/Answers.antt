use Rattle.std.proofs.Common.{◌≡◌, length, subst}
use Rattle.std.specs.Option.{option_copied}
use Rattle.map_nums.specs.Grids.{cells_in}
use Rattle.tile_work.specs.Working.{WorkState, before_of, base_of, seated_tiles}
use Rattle.tile_work.proofs.Slots.{length-work}
use Rattle.tile_work.proofs.working.Working.extent.Goals as goal

pub returns-clause-count : goal.returns-clause-count
returns-clause-count c = subst (λ (w : WorkState). length w.cells ≡ cells_in w.size) c.self.view_is (length-work c.self.inside.extent (base_of (before_of (option_copied c.self.inside.base))) (seated_tiles c.self.inside.tiles.items c.self.inside.seats.items))
