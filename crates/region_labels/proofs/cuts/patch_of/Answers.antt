use Rattle.std.proofs.Common.{◌≡◌, ℕ, None, Some, ap, sym, subst, ◌∙◌, arith}
use Rattle.map_nums.specs.Grids.{Size}
use Rattle.layer_tiles.specs.Tiles.{Block, tiles_in, IsBlockOf}
use Rattle.layer_tiles.specs.Patches.{PatchState}
use Rattle.layer_tiles.proofs.Whole.{tile_block_is}
use Rattle.tile_work.specs.Working.{IsPatchOf}
use Rattle.tile_work.proofs.Pushing.{patch_none, patch_pushed, above_pushed, patch_all}
use Rattle.region_labels.proofs.Cutting.{pushed_tile}
use Rattle.region_labels.proofs.cuts.patch_of.Goals as goal

pub loop-tile-init : goal.loop-tile-init
loop-tile-init c =
    let e = c.new-patch.ensures in
    record {
      size = ap (λ (p : PatchState). p.size) e;
      above = rw (e) (λ l. absurd (omega (arith, l)));
      patch = rw (e) (patch_none c.args.extent None c.args.labels.now);
    }

pub push-requires-clause-size : goal.push-requires-clause-size
push-requires-clause-size c =
    subst (λ (z : Size). IsBlockOf z c.loop-tile.tile c.in_ok-made.made) (sym c.loop-tile.invariant.size) (subst (λ (b : Block). IsBlockOf c.args.extent c.loop-tile.tile b) (sym c.in_ok-made.ensures) (tile_block_is c.args.extent c.args.labels.now c.loop-tile.tile))

pub loop-tile-preserved : goal.loop-tile-preserved
loop-tile-preserved c =
    let s = c.args.extent in
    let t = c.loop-tile.tile in
    let pushed = pushed_tile s t c.in_ok-made.made c.loop-tile.patch.tiles c.push.new.self.tiles (ap (λ (p : PatchState). p.tiles) c.in_ok-push.ensures.ok) in
    record {
      size = ap (λ (p : PatchState). p.size) c.in_ok-push.ensures.ok ∙ c.loop-tile.invariant.size;
      above = above_pushed s None t (Some c.in_ok-made.made) c.loop-tile.patch.tiles c.push.new.self.tiles c.loop-tile.invariant.above pushed;
      patch = patch_pushed s None c.args.labels.now t (Some c.in_ok-made.made) c.loop-tile.patch.tiles c.push.new.self.tiles c.loop-tile.invariant.patch c.in_ok-made.ensures pushed;
    }

pub returns-clause-patch : goal.returns-clause-patch
returns-clause-patch c =
    let s = c.args.extent in
    let e : c.loop-tile.tile ≡ tiles_in s = omega (arith, c.loop-tile-test.false, c.tiles-tile-end.ensures.tiles, c.loop-tile.auto.tile-end) in
    patch_all s None c.args.labels.now c.loop-tile.patch.tiles c.tiles-tile-end.ensures.size c.requires
    (subst (λ (n : ℕ). IsPatchOf s None c.args.labels.now n c.loop-tile.patch.tiles) e c.loop-tile.invariant.patch)
