use Rattle.std.proofs.Common.{◌≡◌}
use Rattle.damage_sets.specs.Seen.{IsChangedAbove}
use Rattle.damage_sets.specs.Widened.{IsWidened}
use Rattle.damage_sets.proofs.changed.add_tile.Given as goal

abbrev pub invariant-loop-r : goal.invariant-loop-r
invariant-loop-r g l = record {
  size : l.set.size ≡ l.initial.set.size;
  marks : IsWidened l.fn.change.size l.reach (IsChangedAbove l.fn.change l.fn.tile l.r) l.initial.set.marks l.set.marks;
}
