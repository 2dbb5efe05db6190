use Rattle.std.proofs.Common.{◌≡◌, ◌-◌, ◌*◌, ◌^◌}
use Rattle.layer_tiles.specs.Tallies.{RisesBy}
use Rattle.damage_sets.specs.Seen.{IsChangedBelow, touched_below}
use Rattle.damage_sets.specs.Widened.{IsWidened}
use Rattle.damage_sets.proofs.changed.add_changed.Given as goal

abbrev pub invariant-loop-tile : goal.invariant-loop-tile
invariant-loop-tile g l = record {
  size : l.set.size ≡ l.initial.set.size;
  marks : IsWidened l.change.size l.reach (IsChangedBelow l.change l.from) l.initial.set.marks l.set.marks;
  looks : RisesBy (2 * touched_below l.change l.from) 0 (g.M.Tally.counts l.initial.tally) (g.M.Tally.counts l.tally);
}

abbrev pub decreases-loop-tile : goal.decreases-loop-tile
decreases-loop-tile g l = 2 ^ 32 - l.from
