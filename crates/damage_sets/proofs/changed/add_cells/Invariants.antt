use Rattle.std.proofs.Common.{◌≡◌}
use Rattle.damage_sets.specs.Seen.{IsChangedIn}
use Rattle.damage_sets.specs.Widened.{IsWidened}
use Rattle.damage_sets.proofs.changed.add_cells.Given as goal

abbrev pub invariant-loop-k : goal.invariant-loop-k
invariant-loop-k l = record {
  size : l.set.size ≡ l.initial.set.size;
  marks : IsWidened l.initial.set.size l.reach (IsChangedIn l.initial.set.size l.row l.left l.before l.after l.k) l.initial.set.marks l.set.marks;
}
