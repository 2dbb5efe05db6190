use Rattle.std.proofs.Common.{subst}
use Rattle.map_nums.specs.Grids.{Cells}
use Rattle.layer_tiles.specs.Answers.{IsTileAnswer}
use Rattle.region_labels.specs.Roots.{resolved_cells}
use Rattle.region_labels.proofs.Resolved.{resolved_answer}
use Rattle.region_labels.proofs.shows.ProvisionalLabels.tile.Goals as goal

pub returns : goal.returns
returns c =
    let P : Cells → Type 0 = λ labels. IsTileAnswer c.args.extent (resolved_cells c.args.extent labels) c.args.tile c.make_tile.result in
    subst P c.deref.ensures.value (resolved_answer c.args.extent c.deref.result.now c.args.tile c.make_tile.result c.rows-rows.ensures.size c.requires.within c.make_tile.ensures)
