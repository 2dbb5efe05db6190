use Rattle.std.proofs.Common.{◌≤◌, ◌∷◌}
use Rattle.friction_neighbor.specs.Floods.{IsFlooding, MayGrow, RoundToldTo, left_to_do}
use Rattle.friction_neighbor.proofs.floods.pass_round.Given as goal

abbrev pub invariant-loop-r : goal.invariant-loop-r
invariant-loop-r l = record {
  flooding : IsFlooding l.field l.seed.number l.values (l.from.spot.at ∷ l.found.items);
  grows : MayGrow l.initial.values l.values;
  less : left_to_do l.values l.found.items ≤ left_to_do l.initial.values l.initial.found.items;
  told : RoundToldTo l.field l.seed.number l.values l.from.spot.at l.r;
}
