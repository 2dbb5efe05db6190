use Rattle.std.proofs.Common.{◌≡◌, ◌*◌, length, refl, ◌∙◌, arith}
use Rattle.layer_tiles.proofs.Lending.{block_same}
use Rattle.layer_tiles.proofs.Stamping.{cells_from_rows}
use Rattle.layer_tiles.proofs.views.TileView.same.Goals as goal

pub returns : goal.returns
returns c =
    let b = c.args.self.now in
    let b' = c.args.other.now in
    let h : b.height ≡ b'.height = omega arith in
    let w : b.width ≡ b'.width = omega arith in
    let block = c.height-height.ensures.block in
    let n' : length b'.cells ≡ b.height * b.width = c.height.ensures.block.count ∙ rw (h, w) refl in
    let cells = cells_from_rows b b' b.height w block.count n' (λ r l. c.loop-r.invariant r (omega arith)) in
    (λ t. block_same b b' h w cells, λ e. refl)
