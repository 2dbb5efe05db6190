use Rattle.std.proofs.Common.{◌≡◌, false, length, replicate, Some, sym, subst, ◌∙◌, arith, slice_get}
use Rattle.std.proofs.lemmas.List.{length-replicate}
use Rattle.map_nums.specs.Grids.{Size}
use Rattle.layer_tiles.specs.Operands.{size_of}
use Rattle.layer_tiles.specs.Tiles.{tiles_in}
use Rattle.damage_sets.specs.Seen.{IsChangedCell}
use Rattle.damage_sets.specs.Widened.{IsWidened}
use Rattle.damage_sets.proofs.Whole.{ones_more, ones_all, same_set, size_at, operand_looks}
use Rattle.damage_sets.proofs.damage.damaged.Goals as goal

pub loop-k-preserved : goal.loop-k-preserved
loop-k-preserved g c =
    let operands = c.args.operands.now in
    let s = size_of operands in
    let i = c.loop-k.invariant in
    let x = c.at-change.result.now in
    let here : slice_get operands c.loop-k.k ≡ Some x = c.at-change.ensures in
    let size = size_at operands s c.loop-k.k x c.requires.one_size here in
    record {
      size = c.add_changed.ensures.size ∙ i.size;
      marks = ones_more s c.reach-reach.result c.loop-k.k operands x (replicate (tiles_in s) false) c.loop-k.set.marks c.add_changed.new.set.marks here i.marks
          (subst (λ (z : Size). IsWidened z c.reach-reach.result (IsChangedCell x) c.loop-k.set.marks c.add_changed.new.set.marks) size c.add_changed.ensures.marks);
      looks = operand_looks operands c.loop-k.k x _ _ _ here i.looks c.add_changed.ensures.looks;
    }

pub returns-clause-damage : goal.returns-clause-damage
returns-clause-damage g c =
    let operands = c.args.operands.now in
    let s = size_of operands in
    let i = c.loop-k.invariant in
    let n : length c.loop-k.set.marks ≡ tiles_in s = i.marks.count ∙ length-replicate (tiles_in s) false in
    rw (← c.reach-reach.ensures)
    (same_set c.loop-k.set s _ i.size (ones_all s c.reach-reach.result c.loop-k.k operands c.loop-k.set.marks (omega (arith, c.len-k-end.ensures.len, c.loop-k-test.false)) n i.marks))
