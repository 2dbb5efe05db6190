use Rattle.std.proofs.Common.{refl}
use Rattle.map_nums.specs.Grids.{cell_at}
use Rattle.layer_tiles.specs.PlaceByPlace.{cell_in}
use Rattle.tile_frame.proofs.Answering.{grid_answer}
use Rattle.friction_neighbor.proofs.shows.value_tile.Goals as goal

pub returns : goal.returns
returns c =
    let values = c.args.values.now in
    let s = c.args.extent in
    let t = c.args.tile in
    grid_answer s t (λ r k. cell_at values (cell_in s t r k)) (cell_at values) c.make_tile.result c.rows-rows.ensures.size c.requires.within (λ r k l m. refl) c.make_tile.ensures
