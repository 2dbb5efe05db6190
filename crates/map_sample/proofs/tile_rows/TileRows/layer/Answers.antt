use Rattle.std.proofs.Common.{◌≡◌, ◌<◌, ◌+◌, ◌*◌, suc, ◌∷◌, drop, IfOk, sym, ◌∙◌, ap, subst, arith}
use Rattle.std.specs.Vec.Iter.{into_iter_items}
use Rattle.std.proofs.lemmas.List.{drop-drop}
use Rattle.layer_tiles.specs.Tiles.{tiles_across, tiles_down}
use Rattle.layer_tiles.specs.Wholes.{IsCut}
use Rattle.layer_tiles.proofs.AllTiles.{cut_none, cut_all}
use Rattle.map_sample.specs.Grids.{cells_of, tiles_of_row}
use Rattle.map_sample.proofs.RowsOfTiles.{next_row, rows_cut, rows_layer}
use Rattle.map_sample.proofs.tile_rows.TileRows.layer.Goals as goal

pub loop-down-init : goal.loop-down-init
loop-down-init c =
    let s = c.args.self.now.extent in
    let cells = cells_of s c.args.self.now.grid in
    let len = c.into_iter-rest.ensures.len in
    let none : 0 ≡ 0 * tiles_across s = omega arith in
    record {
      rest = c.into_iter-rest.ensures.rest;
      left = omega (arith, len, c.requires.count);
      cut = subst (λ n. IsCut s cells n c.new-patch.result) none (cut_none s cells c.new-patch.result c.new-patch.ensures);
    }

pub add_row-requires-clause-tiles : goal.add_row-requires-clause-tiles
add_row-requires-clause-tiles c =
    let s = c.args.self.now.extent in
    let grid = c.args.self.now.grid in
    let down = c.loop-down.down in
    let rows = c.args.rows.items in
    let rest = into_iter_items c.next.new.self in
    let row = c.in-Some.row in
    let head : drop down rows ≡ row ∷ rest = sym c.loop-down.invariant.rest ∙ c.in-Some.ensures.items in
    let within : down < tiles_down s = omega (arith, c.loop-down-test.true, c.tiles_down-down-end.ensures.down) in
    subst (λ x. IfOk x (λ tiles. tiles.items ≡ tiles_of_row s grid down)) c.in_ok-row.was (next_row s grid down rows rest row c.requires.each within head)

pub loop-down-preserved : goal.loop-down-preserved
loop-down-preserved c =
    let s = c.args.self.now.extent in
    let cells = cells_of s c.args.self.now.grid in
    let down = c.loop-down.down in
    let rows = c.args.rows.items in
    let rest = into_iter_items c.next.new.self in
    let row = c.in-Some.row in
    let i = c.loop-down.invariant in
    let head : drop down rows ≡ row ∷ rest = sym i.rest ∙ c.in-Some.ensures.items in
    let more : suc down ≡ down + 1 = omega arith in
    let one_less = c.in-Some.ensures.cases.1 in
    let so_far = i.left in
    record {
      rest = sym (ap (drop 1) head) ∙ drop-drop 1 down rows;
      left = omega arith;
      cut = subst (λ n. IsCut s cells (n * tiles_across s) c.add_row.new.patch) more c.in_ok-add_row.ensures;
    }

pub fresh-requires : goal.fresh-requires
fresh-requires c =
    let s = c.args.self.now.extent in
    let grid = c.args.self.now.grid in
    let down : c.loop-down.down ≡ tiles_down s = omega (arith, c.loop-down-test.false, c.loop-down.auto.down-end, c.tiles_down-down-end.ensures.down) in
    cut_all s (cells_of s grid) c.loop-down.patch (rows_cut s grid c.loop-down.down c.loop-down.patch down c.loop-down.invariant.cut)

pub returns : goal.returns
returns c =
    let s = c.args.self.now.extent in
    let grid = c.args.self.now.grid in
    let down : c.loop-down.down ≡ tiles_down s = omega (arith, c.loop-down-test.false, c.loop-down.auto.down-end, c.tiles_down-down-end.ensures.down) in
    rows_layer s grid c.loop-down.down c.loop-down.patch c.fresh.result c.tiles_down-down-end.ensures.size down c.loop-down.invariant.cut c.fresh.ensures
