use Rattle.std.proofs.Common.{◌≡◌, ◌<◌, ◌+◌, ◌*◌, suc, ◌++◌, ◌∷◌, [], drop, length, sym, ◌∙◌, ap, subst, arith}
use Rattle.std.specs.Vec.Iter.{into_iter_items}
use Rattle.std.proofs.lemmas.List.{drop-drop}
use Rattle.std.proofs.lemmas.List.FromFn.{length-map-range_with_len}
use Rattle.map_nums.specs.Grids.{Size}
use Rattle.layer_tiles.specs.Patches.{IsAboveLast}
use Rattle.layer_tiles.specs.Tiles.{IsBlockOf, tile_block, tiles_across, tiles_in}
use Rattle.layer_tiles.specs.Wholes.{IsCut}
use Rattle.layer_tiles.proofs.AllTiles.{cut_above, cut_more, cut_size}
use Rattle.map_sample.specs.Grids.{cells_of}
use Rattle.map_sample.proofs.RowsOfTiles.{next_tile, tile_below}
use Rattle.map_sample.proofs.tile_rows.TileRows.add_row.Goals as goal

pub loop-k-init : goal.loop-k-init
loop-k-init c =
    let s = c.args.self.now.extent in
    let cells = cells_of s c.args.self.now.grid in
    let first = c.args.down * tiles_across s in
    let count = ap length c.requires.tiles ∙ length-map-range_with_len (tile_block s cells) first (tiles_across s) in
    let len = c.into_iter-rest.ensures.len in
    let from : first ≡ first + 0 = omega arith in
    record {
      rest = c.into_iter-rest.ensures.rest;
      left = omega (arith, len, count);
      cut = subst (λ n. IsCut s cells n c.args.patch.now) from c.requires.above;
    }

pub push-requires-clause-ascending : goal.push-requires-clause-ascending
push-requires-clause-ascending c =
    let s = c.args.self.now.extent in
    let down = c.args.down in
    let k = c.loop-k.k in
    subst (λ a. IsAboveLast c.loop-k.patch.tiles (down * a + k)) (sym c.tiles_across-across.ensures.across) (cut_above s (cells_of s c.args.self.now.grid) (down * tiles_across s + k) c.loop-k.patch c.loop-k.invariant.cut)

pub push-requires-clause-within : goal.push-requires-clause-within
push-requires-clause-within c =
    let s = c.args.self.now.extent in
    let down = c.args.down in
    let k = c.loop-k.k in
    let e = c.tiles_across-across.ensures.across in
    subst (λ (z : Size). down * c.tiles_across-across.result + k < tiles_in z) (sym c.loop-k.invariant.cut.size)
    (subst (λ a. down * a + k < tiles_in s) (sym e) (tile_below s down k c.requires.within (subst (λ a. k < a) e c.loop-k-test.true)))

pub push-requires-clause-size : goal.push-requires-clause-size
push-requires-clause-size c =
    let s = c.args.self.now.extent in
    let grid = c.args.self.now.grid in
    let down = c.args.down in
    let k = c.loop-k.k in
    let e = c.tiles_across-across.ensures.across in
    let tiles = c.args.tiles.items in
    let rest = into_iter_items c.next.new.self in
    let tile = c.in-Some.tile in
    let head : drop k tiles ≡ tile ∷ rest = sym c.loop-k.invariant.rest ∙ c.in-Some.ensures.items in
    let is = next_tile s grid down k tiles rest tile c.requires.tiles (subst (λ a. k < a) e c.loop-k-test.true) head in
    subst (λ a. IsBlockOf c.loop-k.patch.size (down * a + k) tile) (sym e) (cut_size s (cells_of s grid) (down * tiles_across s + k) c.loop-k.patch tile c.loop-k.invariant.cut is)

pub loop-k-preserved : goal.loop-k-preserved
loop-k-preserved c =
    let s = c.args.self.now.extent in
    let grid = c.args.self.now.grid in
    let cells = cells_of s grid in
    let k = c.loop-k.k in
    let first = c.args.down * tiles_across s in
    let e = c.tiles_across-across.ensures.across in
    let tiles = c.args.tiles.items in
    let rest = into_iter_items c.next.new.self in
    let tile = c.in-Some.tile in
    let patch = c.loop-k.patch in
    let new = c.push.new.self in
    let i = c.loop-k.invariant in
    let head : drop k tiles ≡ tile ∷ rest = sym i.rest ∙ c.in-Some.ensures.items in
    let is = next_tile s grid c.args.down k tiles rest tile c.requires.tiles (subst (λ a. k < a) e c.loop-k-test.true) head in
    let pushed = subst (λ a. new ≡ record patch { tiles = patch.tiles ++ (c.args.down * a + k, tile) ∷ [] }) e c.in_ok-push.ensures.ok in
    let more : first + k + 1 ≡ first + (k + 1) = omega arith in
    let one_less = c.in-Some.ensures.cases.1 in
    let so_far = i.left in
    record {
      rest = sym (ap (drop 1) head) ∙ drop-drop 1 k tiles;
      left = omega arith;
      cut = subst (λ n. IsCut s cells n new) more (cut_more s cells (first + k) patch new tile i.cut is pushed);
    }

pub returns : goal.returns
returns c =
    let s = c.args.self.now.extent in
    let e = c.tiles_across-across.ensures.across in
    let k : c.loop-k.k ≡ tiles_across s = omega (arith, c.loop-k-test.false, c.loop-k.auto.k-end, e) in
    let all : c.args.down * tiles_across s + tiles_across s ≡ suc c.args.down * tiles_across s = omega arith in
    subst (λ n. IsCut s (cells_of s c.args.self.now.grid) n c.loop-k.patch) (ap (λ j. c.args.down * tiles_across s + j) k ∙ all) c.loop-k.invariant.cut
