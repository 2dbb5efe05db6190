use Rattle.std.proofs.Common.{arith}
use Rattle.least_costs.proofs.Fills.{taken_out, filled_least}
use Rattle.least_costs.proofs.Queues.{popped_length}
use Rattle.friction_spread.specs.Costs.{net_of}
use Rattle.friction_spread.specs.Flat.{costs_of}
use Rattle.friction_spread.proofs.Grounds.{net_closed, net_costs}
use Rattle.friction_spread.proofs.fills.fill.Goals as goal

pub reach-requires-clause-filling : goal.reach-requires-clause-filling
reach-requires-clause-filling c = taken_out (net_of c.args.ground.now) (costs_of c.args.ground.now c.loop-key.costs) c.loop-key.queue (c.in-Some.key, c.in-Some.at) c.pop.new.self c.in-Some.ensures.entry c.loop-key.invariant.filling

pub loop-key-smaller : goal.loop-key-smaller
loop-key-smaller c = omega (arith, c.in_ok-reach.ensures.less, popped_length (c.in-Some.key, c.in-Some.at) c.loop-key.queue c.pop.new.self c.in-Some.ensures.entry)

pub loop-key-preserved : goal.loop-key-preserved
loop-key-preserved c = record {
  filling = c.in_ok-reach.ensures.filling;
  begun = λ i. omega (arith, c.in_ok-reach.ensures.falls i, c.loop-key.invariant.begun i);
}

pub returns : goal.returns
returns c =
    let gr = c.args.ground.now in
    filled_least (net_of gr) (net_closed gr) (net_costs gr) (costs_of gr c.loop-key.costs) c.loop-key.queue c.loop-key.invariant.filling c.loop-key.invariant.begun c.in_default.ensures.none
