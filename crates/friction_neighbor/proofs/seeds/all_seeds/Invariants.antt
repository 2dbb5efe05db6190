use Rattle.friction_neighbor.specs.Seeds.{AreSeedsTo}
use Rattle.friction_neighbor.proofs.seeds.all_seeds.Given as goal

abbrev pub invariant-loop-at : goal.invariant-loop-at
invariant-loop-at l = AreSeedsTo l.field l.at l.seeds.items
