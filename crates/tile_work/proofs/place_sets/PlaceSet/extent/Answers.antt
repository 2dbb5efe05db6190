use Rattle.std.proofs.Common.{◌≡◌, length, subst}
use Rattle.map_nums.specs.Grids.{cells_in}
use Rattle.tile_work.specs.PlaceSets.{PlaceSetState, seated_words}
use Rattle.tile_work.proofs.Marks.{length-marks}
use Rattle.tile_work.proofs.place_sets.PlaceSet.extent.Goals as goal

pub returns-clause-count : goal.returns-clause-count
returns-clause-count c = subst (λ (p : PlaceSetState). length p.marks ≡ cells_in p.size) c.self.view_is (length-marks c.self.inside.extent (seated_words c.self.inside.words.items c.self.inside.seats.items))
