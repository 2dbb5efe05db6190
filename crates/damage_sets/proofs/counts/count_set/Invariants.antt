use Rattle.std.proofs.Common.{◌≡◌, ◌≤◌}
use Rattle.damage_sets.specs.Sets.{has_tile}
use Rattle.damage_sets.proofs.Counting.{below}
use Rattle.damage_sets.proofs.counts.count_set.Given as goal

abbrev pub invariant-loop-tile : goal.invariant-loop-tile
invariant-loop-tile l = record {
  few : l.count ≤ l.tile;
  counted : l.count ≡ below (has_tile l.set) l.tile;
}
