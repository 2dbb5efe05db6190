use Rattle.region_labels.specs.Lists.{labelled, flood_of, MayGet}
use Rattle.region_labels.specs.Runs.{IsRunGrown, IsRunRoundTo}
use Rattle.region_labels.proofs.first.reach_round.Given as goal

abbrev pub invariant-loop-r : goal.invariant-loop-r
invariant-loop-r l = record {
  grown : IsRunGrown l.fn.list.size l.cells l.value l.at l.count (flood_of l.fn.list) (flood_of l.list);
  labels : MayGet l.label l.fn.list.labels l.list.labels;
  near : IsRunRoundTo l.fn.list.size l.cells l.value l.at l.count l.r (labelled l.list.labels);
}
