use Rattle.std.proofs.Common.{◌≡◌}
use Rattle.damage_sets.specs.Added.{AreRowsAdded}
use Rattle.damage_sets.proofs.sets.TileSet.add_rows.Given as goal

abbrev pub invariant-loop-band : goal.invariant-loop-band
invariant-loop-band l = record {
  size : l.self.size ≡ l.initial.self.size;
  rows : AreRowsAdded l.across l.fn.low l.band l.left l.right l.initial.self.marks l.self.marks;
}
