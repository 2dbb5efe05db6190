use Rattle.std.proofs.Common.{sym, ◌∙◌, ap, arith}
use Rattle.map_nums.specs.Grids.{Size}
use Rattle.layer_tiles.specs.PlaceByPlace.{cell_in}
use Rattle.layer_tiles.proofs.Places.{placed}
use Rattle.layer_tiles.proofs.Rounds.{here}
use Rattle.tile_frame.proofs.Framing.{row_as}
use Rattle.changed_cells.proofs.Ordering.{start_is}
use Rattle.drainage_flow.specs.FlowBands.{all_flows}
use Rattle.drainage_flow.specs.Pouring.{flow_in}
use Rattle.drainage_flow.specs.Showing.{shown_at}
use Rattle.drainage_flow.proofs.FlowBands.{even_flows}
use Rattle.drainage_flow.proofs.whole.FlowTileTileMaker.row.Goals as goal

pub seat-band-requires : goal.seat-band-requires
seat-band-requires c =
    let m = c.requires.makes in
    let e = start_is c.args.extent c.args.tile c.args.r 0 c.place-place.result c.columns.result c.place-place.ensures.place c.columns.ensures.columns in
    let some = (placed c.args.extent c.args.tile m.2 c.requires.within).some_column in
    let h = (here c.args.extent c.args.tile c.args.r 0 m.2 c.requires.within c.requires.row some).within in
    omega (arith, e, h, m.4, even_flows c.args.self.now.bands.now m.5)

pub make_row-requires-clause-columns : goal.make_row-requires-clause-columns
make_row-requires-clause-columns c = λ k l.
    let m = c.requires.makes in
    let e = start_is c.args.extent c.args.tile c.args.r k c.place-place.result c.columns.result c.place-place.ensures.place c.columns.ensures.columns in
    let h = (here c.args.extent c.args.tile c.args.r k m.2 c.requires.within c.requires.row l).within in
    (omega (arith, e, h, m.3), m.4 ∙ sym m.3, omega (arith, m.3, m.2.most_cells), m.5, c.seat-band.ensures.seat)

pub returns : goal.returns
returns c =
    let m = c.requires.makes in
    let f = shown_at c.args.self.now.surface.now (flow_in (all_flows c.args.self.now.bands.now)) in
    row_as _ _ c.args.extent c.args.tile c.args.r c.args.made.now c.make_row.new.made c.make_row.result
    (λ k l. ap f (start_is c.args.extent c.args.tile c.args.r k c.place-place.result c.columns.result c.place-place.ensures.place c.columns.ensures.columns
    ∙ ap (λ (s : Size). cell_in s c.args.tile c.args.r k) m.0 ∙ ap (λ t. cell_in c.args.self.now.extent t c.args.r k) m.1))
    c.make_row.ensures
