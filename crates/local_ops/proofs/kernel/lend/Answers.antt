use Rattle.std.proofs.Common.{◌≡◌, ℕ, Some, sym, refl, slice_get}
use Rattle.map_nums.specs.Grids.{Size}
use Rattle.layer_tiles.specs.Tiles.{Block, tile_block}
use Rattle.layer_tiles.specs.Changes.{ChangeState}
use Rattle.layer_tiles.proofs.Rising.{rises_looked}
use Rattle.local_ops.specs.Operands.{size_of}
use Rattle.local_ops.proofs.Lending.{size_at, blocks_push}
use Rattle.local_ops.proofs.kernel.lend.Goals as goal

pub loop-k-preserved : goal.loop-k-preserved
loop-k-preserved g c =
    let operands = c.args.operands.now in
    let x = c.at-change.result.now in
    let s = size_of operands in
    let here : slice_get operands c.loop-k.k ≡ Some x = c.at-change.ensures in
    let size = size_at operands c.loop-k.k x c.requires.one_size here in
    record {
      views = blocks_push s c.args.tile operands c.loop-k.k x c.loop-k.views.items c.push.new.self.items c.view.result here c.loop-k.invariant.views c.in_ok-push.ensures.items (lent c.view.result c.args.tile x s c.view.ensures.tile size);
      tally = rises_looked c.loop-k.k 0 1 _ _ _ c.loop-k.invariant.tally c.view.ensures.look;
    }
  where
    lent : (view : Block) (t : ℕ) (x : ChangeState) (s : Size) → view ≡ tile_block x.size x.cells t → x.size ≡ s → view ≡ tile_block s x.cells t
    lent view t x s e f = rw (e, f) refl
