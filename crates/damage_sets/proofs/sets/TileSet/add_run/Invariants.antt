use Rattle.std.proofs.Common.{◌≡◌}
use Rattle.damage_sets.specs.Added.{IsRunAdded}
use Rattle.damage_sets.proofs.sets.TileSet.add_run.Given as goal

abbrev pub invariant-loop-tile : goal.invariant-loop-tile
invariant-loop-tile l = record {
  size : l.self.size ≡ l.initial.self.size;
  run : IsRunAdded l.fn.first l.tile l.initial.self.marks l.self.marks;
}
