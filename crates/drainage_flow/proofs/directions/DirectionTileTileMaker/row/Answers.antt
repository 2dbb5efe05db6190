use Rattle.std.proofs.Common.{ℕ, ◌<◌, sym, subst}
use Rattle.map_nums.specs.Grids.{Size}
use Rattle.layer_tiles.specs.Tiles.{tiles_in, tile_height, tile_width}
use Rattle.near_cells.specs.Near.{IsNear}
use Rattle.drainage_flow.proofs.Around.{rows_round}
use Rattle.drainage_flow.proofs.directions.DirectionTileTileMaker.row.Goals as goal

pub make_row-requires-clause-columns : goal.make_row-requires-clause-columns
make_row-requires-clause-columns c = λ k l.
    let s = c.args.self.now.surface.now.size in
    let cells = c.args.self.now.surface.now.cells in
    let t = c.args.tile in
    let m = c.requires.makes in
    let near = subst (λ (u : ℕ). IsNear s cells u 1 c.args.self.now.near.now) (sym m.1) m.2 in
    rows_round s cells t c.args.r k c.args.self.now.near.now c.row.result.now c.row-2.result.now c.row-3.result.now near
    c.extent-extent.ensures.size
    (subst (λ (z : Size). t < tiles_in z) m.0 c.requires.within)
    (subst (λ (z : Size). c.args.r < tile_height z t) m.0 c.requires.row)
    (subst (λ (z : Size). k < tile_width z t) m.0 l)
    c.row.ensures.row c.row-2.ensures.row c.row-3.ensures.row c.row.ensures.width c.row-2.ensures.width c.row-3.ensures.width
