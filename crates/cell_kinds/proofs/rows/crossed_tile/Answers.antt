use Rattle.std.proofs.Common.{◌+◌, ◌*◌, ◌/◌, ◌<◌, ◌∙◌, ap, subst, sym, arith}
use Rattle.layer_tiles.specs.Tiles.{tiles_across, tiles_in}
use Rattle.layer_tiles.proofs.RowsOfTiles.{few_tiles, crosses}
use Rattle.cell_kinds.proofs.rows.crossed_tile.Goals as goal

pub overflow_mul-r : goal.overflow_mul-r
overflow_mul-r g c =
    let few = few_tiles c.args.layer.now.size c.args.r c.tiles_across-across.result c.extent.ensures.layer.size c.requires.row (c.tiles_across-across.ensures.across ∙ ap tiles_across c.extent.ensures.extent) in
    omega (arith, few.0)

pub overflow_add-r : goal.overflow_add-r
overflow_add-r g c =
    let across = c.tiles_across-across.ensures.across ∙ ap tiles_across c.extent.ensures.extent in
    let few = few_tiles c.args.layer.now.size c.args.r c.tiles_across-across.result c.extent.ensures.layer.size c.requires.row across in
    omega (arith, few.0, few.1, c.requires.tile, across)

pub view-requires : goal.view-requires
view-requires g c =
    subst (λ n. c.args.r / 32 * n + c.args.k < tiles_in c.args.layer.now.size) (sym (c.tiles_across-across.ensures.across ∙ ap tiles_across c.extent.ensures.extent)) (crosses c.args.layer.now.size c.args.r c.args.k c.requires.row c.requires.tile).within
