use Rattle.std.proofs.Common.{◌≡◌, ◌≤◌, ◌-◌, ◌^◌}
use Rattle.std.specs.Option.{option_copied}
use Rattle.layer_tiles.specs.Tiles.{tiles_in}
use Rattle.damage_sets.specs.Counted.{is_new}
use Rattle.damage_sets.proofs.Counting.{below}
use Rattle.damage_sets.proofs.counts.count_new.Given as goal

abbrev pub invariant-loop-tile : goal.invariant-loop-tile
invariant-loop-tile l = record {
  few : l.count ≤ l.from;
  within : l.from ≤ tiles_in l.patch.size;
  counted : l.count ≡ below (is_new l.patch l.set (option_copied l.other)) l.from;
}

abbrev pub decreases-loop-tile : goal.decreases-loop-tile
decreases-loop-tile l = 2 ^ 32 - l.from
