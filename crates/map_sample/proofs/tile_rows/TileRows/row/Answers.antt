use Rattle.std.proofs.Common.{◌≡◌, ◌<◌, ◌+◌, ◌*◌, ◌++◌, ◌∷◌, [], map, refl, sym, ◌∙◌, ap, subst}
use Rattle.std.specs.List.{range_with_len}
use Rattle.std.proofs.lemmas.List.FromFn.{map-range_with_len_more}
use Rattle.layer_tiles.specs.Tiles.{tile_block, tiles_across, tiles_in}
use Rattle.map_sample.specs.Grids.{cells_of}
use Rattle.map_sample.proofs.RowsOfTiles.{tile_below}
use Rattle.map_sample.proofs.tile_rows.TileRows.row.Goals as goal

pub tile-requires : goal.tile-requires
tile-requires c =
    let s = c.args.self.now.extent in
    let e = c.tiles_across-across.ensures.across in
    let k = c.loop-k.k in
    subst (λ a. c.args.down * a + k < tiles_in s) (sym e) (tile_below s c.args.down k c.requires (subst (λ a. k < a) e c.loop-k-test.true))

pub loop-k-preserved : goal.loop-k-preserved
loop-k-preserved c =
    let s = c.args.self.now.extent in
    let f = tile_block s (cells_of s c.args.self.now.grid) in
    let k = c.loop-k.k in
    let first = c.args.down * tiles_across s in
    let at : c.args.down * c.tiles_across-across.result + k ≡ first + k = ap (λ a. c.args.down * a + k) c.tiles_across-across.ensures.across in
    c.in_ok-push.ensures.items ∙ ap (λ l. l ++ c.in_ok-tile.tile ∷ []) c.loop-k.invariant ∙ ap (λ b. map f (range_with_len first k) ++ b ∷ []) (c.in_ok-tile.ensures ∙ ap f at)
    ∙ sym (map-range_with_len_more f first k (first + k) refl)
