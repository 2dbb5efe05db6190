use Rattle.std.proofs.Common.{◌≡◌, []}
use Rattle.friction_neighbor.proofs.Seeding.{AreFloodedTo, HaveValuesTo}
use Rattle.friction_neighbor.proofs.floods.flood_all.Given as goal

abbrev pub invariant-loop-seed : goal.invariant-loop-seed
invariant-loop-seed l = record {
  none : l.found.items ≡ [];
  flooded : AreFloodedTo l.field l.seeds l.values l.seed-index;
  valued : HaveValuesTo l.seeds l.values l.seed-index;
}
