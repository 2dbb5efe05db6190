use Rattle.std.proofs.Common.{◌<◌, ap, ◌∙◌, arith}
use Rattle.layer_tiles.specs.Tiles.{tiles_in}
use Rattle.damage_sets.proofs.Turns.{turns_more, turns_all, looks_more, looks_all}
use Rattle.damage_sets.proofs.changed.add_changed.Goals as goal

pub add_tile-requires-clause-within : goal.add_tile-requires-clause-within
add_tile-requires-clause-within g c = c.extent-extent.ensures.change.within c.in-Some.tile c.in-Some.ensures.next.held

pub overflow_add-from : goal.overflow_add-from
overflow_add-from g c =
    let l : c.in-Some.tile < tiles_in c.args.change.now.size = c.extent-extent.ensures.change.within c.in-Some.tile c.in-Some.ensures.next.held in
    omega (arith, l, c.tiles-tiles.ensures.tiles, ap tiles_in c.extent-extent.ensures.extent)

pub loop-tile-preserved : goal.loop-tile-preserved
loop-tile-preserved g c =
    let o = c.args.change.now in
    let i = c.loop-tile.invariant in
    record {
      size = c.add_tile.ensures.size ∙ i.size;
      marks = turns_more o c.loop-tile.from c.in-Some.tile c.args.reach c.args.set.now.marks c.loop-tile.set.marks c.add_tile.new.set.marks c.extent-extent.ensures.change c.in-Some.ensures.next i.marks c.add_tile.ensures.marks;
      looks = looks_more o c.loop-tile.from c.in-Some.tile _ _ _ c.in-Some.ensures.next i.looks c.add_tile.ensures.looks;
    }

pub returns-clause-marks : goal.returns-clause-marks
returns-clause-marks g c = turns_all c.args.change.now c.loop-tile.from c.args.reach c.args.set.now.marks c.loop-tile.set.marks c.extent-extent.ensures.change c.in_default.ensures.none c.loop-tile.invariant.marks

pub returns-clause-looks : goal.returns-clause-looks
returns-clause-looks g c = looks_all c.args.change.now c.loop-tile.from _ _ c.loop-tile.invariant.looks
