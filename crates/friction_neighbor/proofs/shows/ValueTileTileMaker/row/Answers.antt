use Rattle.std.proofs.Common.{◌∙◌, ap, arith}
use Rattle.map_nums.specs.Grids.{Size, cell_at}
use Rattle.layer_tiles.specs.PlaceByPlace.{cell_in}
use Rattle.layer_tiles.proofs.Rounds.{here}
use Rattle.tile_frame.proofs.Framing.{row_as}
use Rattle.changed_cells.proofs.Ordering.{start_is}
use Rattle.friction_neighbor.proofs.shows.ValueTileTileMaker.row.Goals as goal

pub make_row-requires-clause-columns : goal.make_row-requires-clause-columns
make_row-requires-clause-columns c = λ k l.
    let m = c.requires.makes in
    let e = start_is c.args.extent c.args.tile c.args.r k c.place-place.result c.columns.result c.place-place.ensures.place c.columns.ensures.columns in
    let h = (here c.args.extent c.args.tile c.args.r k m.2 c.requires.within c.requires.row l).within in
    omega (arith, e, h, m.3)

pub returns : goal.returns
returns c =
    let m = c.requires.makes in
    let f = cell_at c.args.self.now.values.now in
    row_as _ _ c.args.extent c.args.tile c.args.r c.args.made.now c.make_row.new.made c.make_row.result
    (λ k l. ap f (start_is c.args.extent c.args.tile c.args.r k c.place-place.result c.columns.result c.place-place.ensures.place c.columns.ensures.columns
    ∙ ap (λ (s : Size). cell_in s c.args.tile c.args.r k) m.0 ∙ ap (λ t. cell_in c.args.self.now.extent t c.args.r k) m.1))
    c.make_row.ensures
