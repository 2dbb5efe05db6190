use Rattle.std.proofs.Common.{◌≡◌, ◌*◌, false, replicate, take}
use Rattle.layer_tiles.specs.Operands.{size_of}
use Rattle.layer_tiles.specs.Tallies.{RisesBy}
use Rattle.layer_tiles.specs.Tiles.{tiles_in}
use Rattle.damage_sets.specs.Damage.{touched_in}
use Rattle.damage_sets.specs.Seen.{IsChangedOne}
use Rattle.damage_sets.specs.Widened.{IsWidened}
use Rattle.damage_sets.proofs.damage.damaged.Given as goal

abbrev pub invariant-loop-k : goal.invariant-loop-k
invariant-loop-k g l = record {
  size : l.set.size ≡ size_of l.operands;
  marks : IsWidened (size_of l.operands) l.reach (IsChangedOne l.operands l.k) (replicate (tiles_in (size_of l.operands)) false) l.set.marks;
  looks : RisesBy (2 * touched_in (take l.k l.operands)) 0 (g.M.Tally.counts l.initial.tally) (g.M.Tally.counts l.tally);
}
