use Rattle.friction_spread.specs.Costs.{net_of}
use Rattle.friction_spread.specs.Flat.{costs_of}
use Rattle.friction_spread.proofs.fills.offer_round.Given as goal
use Rattle.least_costs.specs.Filling.{IsOffering}
use Rattle.friction_spread.specs.Rows.{RoundRelaxedTo}

abbrev pub invariant-loop-r : goal.invariant-loop-r
invariant-loop-r l = record {
  offered : IsOffering (net_of l.ground) l.value l.from.at (costs_of l.ground l.initial.costs) l.initial.queue (costs_of l.ground l.costs) l.queue;
  relaxed : RoundRelaxedTo (net_of l.ground) l.ground.size (costs_of l.ground l.costs) l.from.at l.r;
}
