use Rattle.std.proofs.Common.{◌+◌, ◌*◌, ℕ, get_or, refl, ap, ◌∙◌, arith}
use Rattle.layer_tiles.specs.Tiles.{tiles_across}
use Rattle.map_display.proofs.Rows.{tile_at, stamps_more}
use Rattle.map_display.proofs.stamps.row_of.Goals as goal

pub overflow_mul-r : goal.overflow_mul-r
overflow_mul-r c =
    let t = tile_at c.args.layer.now.size c.args.r c.loop-k.k c.tiles_across-across.result c.extent.ensures.layer.size c.requires (c.tiles_across-across.ensures.across ∙ ap tiles_across c.extent.ensures.extent) c.loop-k-test.true in
    omega (arith, t.few)

pub overflow_add-r : goal.overflow_add-r
overflow_add-r c =
    let t = tile_at c.args.layer.now.size c.args.r c.loop-k.k c.tiles_across-across.result c.extent.ensures.layer.size c.requires (c.tiles_across-across.ensures.across ∙ ap tiles_across c.extent.ensures.extent) c.loop-k-test.true in
    omega (arith, t.few, t.narrow)

pub stamp-requires : goal.stamp-requires
stamp-requires c =
    (tile_at c.args.layer.now.size c.args.r c.loop-k.k c.tiles_across-across.result c.extent.ensures.layer.size c.requires (c.tiles_across-across.ensures.across ∙ ap tiles_across c.extent.ensures.extent) c.loop-k-test.true).within

pub loop-k-preserved : goal.loop-k-preserved
loop-k-preserved c =
    let layer = c.args.layer.now in
    let across = tiles_across layer.size in
    let e = c.tiles_across-across.ensures.across ∙ ap tiles_across c.extent.ensures.extent in
    stamps_more layer.size layer.stamps c.loop-k.row.items c.push.new.self.items c.args.r c.loop-k.k across c.stamp.result c.extent.ensures.layer.stamps
    (tile_at layer.size c.args.r c.loop-k.k across c.extent.ensures.layer.size c.requires refl (omega (arith, e, c.loop-k-test.true)))
    c.loop-k.invariant (c.stamp.ensures ∙ ap (λ (a : ℕ). get_or layer.stamps (c.args.r * a + c.loop-k.k) 0) e) c.in_ok-push.ensures.items
