use Rattle.friction_neighbor.specs.Floods.{IsFlooding, MayGrow, left_to_do}
use Rattle.friction_neighbor.proofs.floods.pass_all.Given as goal

abbrev pub invariant-loop-at : goal.invariant-loop-at
invariant-loop-at l = record {
  flooding : IsFlooding l.field l.seed.number l.values l.found.items;
  grows : MayGrow l.initial.values l.values;
}

abbrev pub decreases-loop-at : goal.decreases-loop-at
decreases-loop-at l = left_to_do l.values l.found.items
