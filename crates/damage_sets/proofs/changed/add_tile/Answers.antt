use Rattle.std.proofs.Common.{length, ap, subst, ◌∙◌, arith}
use Rattle.map_nums.specs.Grids.{Size}
use Rattle.layer_tiles.specs.Tiles.{Block, block_row}
use Rattle.layer_tiles.specs.Places.{IsPlaceOf}
use Rattle.damage_sets.proofs.Rows.{tile_more, tile_all}
use Rattle.damage_sets.proofs.changed.add_tile.Goals as goal

pub loop-r-preserved : goal.loop-r-preserved
loop-r-preserved g c =
    let o = c.args.change.now in
    let i = c.loop-r.invariant in
    let r = c.loop-r.r in
    let p : IsPlaceOf o.size c.args.tile c.place-place.result = subst (λ (z : Size). IsPlaceOf z c.args.tile c.place-place.result) c.extent-extent.ensures.extent c.place-place.ensures.place in
    let before = c.view_before-before.ensures.tile in
    let after = c.view-after.ensures.tile in
    record {
      size = c.add_row.ensures.size ∙ i.size;
      marks = tile_more o c.args.tile r c.args.reach c.row.result.now c.row-in-loop-r.result.now c.extent-extent.ensures.size c.requires.within (omega (arith, p.height, c.loop-r-test.true))
          (c.row.ensures.row ∙ ap (λ (b : Block). block_row b r) before)
          (c.row-in-loop-r.ensures.row ∙ ap (λ (b : Block). block_row b r) after)
          (length c.row.result.now) c.args.set.now.marks c.loop-r.set.marks c.add_row.new.set.marks
          (c.row.ensures.width ∙ ap (λ (b : Block). b.width) before)
          i.marks
          (rw (i.size ∙ c.requires.size, p.top, p.left) at c.add_row.ensures.marks);
    }

pub returns-clause-marks : goal.returns-clause-marks
returns-clause-marks g c =
    let o = c.args.change.now in
    let p : IsPlaceOf o.size c.args.tile c.place-place.result = subst (λ (z : Size). IsPlaceOf z c.args.tile c.place-place.result) c.extent-extent.ensures.extent c.place-place.ensures.place in
    tile_all o c.args.tile c.loop-r.r c.args.reach c.args.set.now.marks c.loop-r.set.marks c.extent-extent.ensures.size (omega (arith, p.height, c.loop-r-test.false)) c.loop-r.invariant.marks
