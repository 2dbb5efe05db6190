use Rattle.std.proofs.Common.{◌≡◌, ℕ, None, Some, ap, sym, subst, ◌∙◌, arith, Result, Err}
use Rattle.map_nums.specs.Grids.{Size}
use Rattle.layer_tiles.specs.Answers.{IsTileAnswer}
use Rattle.layer_tiles.specs.Tiles.{Block, tiles_in, IsBlockOf}
use Rattle.layer_tiles.specs.Patches.{PatchState}
use Rattle.layer_tiles.specs.declared.kernels.KernelRefusal.{KernelRefusal}
use Rattle.layer_tiles.proofs.Whole.{tile_block_is}
use Rattle.tile_work.specs.Working.{IsPatchOf}
use Rattle.tile_work.proofs.Pushing.{patch_none, patch_pushed, above_pushed, patch_all}
use Rattle.friction_spread.proofs.Showing.{pushed_tile}
use Rattle.friction_neighbor.proofs.Results.{narrow_answer}
use Rattle.friction_neighbor.proofs.patches.patch_of.Goals as goal

pub loop-tile-init : goal.loop-tile-init
loop-tile-init g c =
    let e = c.new-patch.ensures in
    record {
      size = ap (λ (p : PatchState). p.size) e;
      above = rw (e) (λ l. absurd (omega (arith, l)));
      patch = rw (e) (patch_none c.args.extent None (g.S.TileSource.cells c.args.source.now c.args.extent));
    }

pub push-requires-clause-size : goal.push-requires-clause-size
push-requires-clause-size g c =
    subst (λ (z : Size). IsBlockOf z c.loop-tile.tile c.in-Ok.made) (sym c.loop-tile.invariant.size) (subst (λ (b : Block). IsBlockOf c.args.extent c.loop-tile.tile b) (sym c.in-Ok.ensures.0) (tile_block_is c.args.extent (g.S.TileSource.cells c.args.source.now c.args.extent) c.loop-tile.tile))

pub loop-tile-preserved : goal.loop-tile-preserved
loop-tile-preserved g c =
    let s = c.args.extent in
    let t = c.loop-tile.tile in
    let cells = g.S.TileSource.cells c.args.source.now s in
    let more = ap (λ (p : PatchState). p.tiles) c.in_ok-push-in-Ok.ensures.ok in
    let pushed = pushed_tile s t c.in-Ok.made c.loop-tile.patch.tiles c.push.new.self.tiles more in
    record {
      size = ap (λ (p : PatchState). p.size) c.in_ok-push-in-Ok.ensures.ok ∙ c.loop-tile.invariant.size;
      above = above_pushed s None t (Some c.in-Ok.made) c.loop-tile.patch.tiles c.push.new.self.tiles c.loop-tile.invariant.above pushed;
      patch = patch_pushed s None cells t (Some c.in-Ok.made) c.loop-tile.patch.tiles c.push.new.self.tiles c.loop-tile.invariant.patch c.in-Ok.ensures.0 pushed;
    }

pub unreachable-requires : goal.unreachable-requires
unreachable-requires g c =
    let s = c.args.extent in
    let t = c.loop-tile.tile in
    let cells = g.S.TileSource.cells c.args.source.now s in
    narrow_answer s cells t c.in-Err-Overflow.field-0-0 c.requires.in_range (subst (λ (r : Result Block KernelRefusal). IsTileAnswer s cells t r) (c.in-Err-Overflow.is ∙ ap (λ (k : KernelRefusal). let r : Result Block KernelRefusal = Err k in r) c.in-Err-Overflow.field-0-is) c.tile.ensures)

pub returns-clause-patch : goal.returns-clause-patch
returns-clause-patch g c =
    let s = c.args.extent in
    let cells = g.S.TileSource.cells c.args.source.now s in
    let e : c.loop-tile.tile ≡ tiles_in s = omega (arith, c.loop-tile-test.false, c.tiles-tile-end.ensures.tiles, c.loop-tile.auto.tile-end) in
    patch_all s None cells c.loop-tile.patch.tiles c.tiles-tile-end.ensures.size c.requires.count (subst (λ (n : ℕ). IsPatchOf s None cells n c.loop-tile.patch.tiles) e c.loop-tile.invariant.patch)
