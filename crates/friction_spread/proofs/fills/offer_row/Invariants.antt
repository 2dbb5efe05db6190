use Rattle.friction_spread.specs.Costs.{net_of}
use Rattle.friction_spread.specs.Flat.{costs_of}
use Rattle.friction_spread.proofs.fills.offer_row.Given as goal
use Rattle.least_costs.specs.Filling.{IsOffering}
use Rattle.friction_spread.specs.Rows.{RowRelaxedTo}

abbrev pub invariant-loop-c : goal.invariant-loop-c
invariant-loop-c l = record {
  offered : IsOffering (net_of l.ground) l.value l.from.at (costs_of l.ground l.initial.costs) l.initial.queue (costs_of l.ground l.costs) l.queue;
  relaxed : RowRelaxedTo (net_of l.ground) l.ground.size (costs_of l.ground l.costs) l.from.at l.row l.c;
}
