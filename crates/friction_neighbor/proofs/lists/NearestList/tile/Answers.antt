use Rattle.std.proofs.Common.{subst}
use Rattle.map_nums.specs.Grids.{Cells}
use Rattle.layer_tiles.specs.Answers.{IsTileAnswer}
use Rattle.friction_neighbor.specs.Shown.{shown_cells}
use Rattle.friction_neighbor.proofs.lists.NearestList.tile.Goals as goal

pub returns : goal.returns
returns c = subst (λ (xs : Cells). IsTileAnswer c.args.extent (shown_cells c.args.extent xs) c.args.tile c.value_tile.result) c.deref.ensures.value c.value_tile.ensures
