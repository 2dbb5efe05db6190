use Rattle.std.proofs.Common.{length, ◌∙◌, ap, sym, arith}
use Rattle.map_nums.specs.Grids.{cells_in}
use Rattle.tile_work.specs.Working.{copies}
use Rattle.least_costs.proofs.Queues.{popped_length}
use Rattle.friction_neighbor.proofs.Counting.{copies_most}
use Rattle.friction_neighbor.proofs.ListSettling.{entry_within, entry_key, list_dealt_on, list_wanted}
use Rattle.friction_neighbor.proofs.Settling.{to_go_falls}
use Rattle.friction_neighbor.proofs.list_settle.settle.Goals as goal

pub deal-requires-clause-count : goal.deal-requires-clause-count
deal-requires-clause-count c = c.loop-cost.invariant.repair.count

pub deal-requires-clause-seen : goal.deal-requires-clause-seen
deal-requires-clause-seen c = c.loop-cost.invariant.repair.size

pub deal-requires-clause-within : goal.deal-requires-clause-within
deal-requires-clause-within c = entry_within c.args.field.now c.extent-extent.ensures.field c.args.values.now c.loop-cost.values c.loop-cost.seen c.loop-cost.queue c.pop.new.self c.in-Some.cost c.in-Some.at c.loop-cost.invariant.repair c.in-Some.ensures.entry c.in-Some.ensures.least

pub deal-requires-clause-cost : goal.deal-requires-clause-cost
deal-requires-clause-cost c = entry_key c.args.field.now c.extent-extent.ensures.field c.args.values.now c.loop-cost.values c.loop-cost.seen c.loop-cost.queue c.pop.new.self c.in-Some.cost c.in-Some.at c.loop-cost.invariant.repair c.in-Some.ensures.entry c.in-Some.ensures.least

pub loop-cost-init : goal.loop-cost-init
loop-cost-init c = record {
  full = c.extent-places.ensures.count ∙ ap cells_in c.requires.begun.size;
  repair = c.requires.begun;
}

pub loop-cost-smaller : goal.loop-cost-smaller
loop-cost-smaller c =
    let put = c.in_ok-deal.ensures.dealt.put in
    let n = cells_in c.args.field.now.ground.size in
    to_go_falls n (copies c.loop-cost.seen.marks) (copies c.deal.new.seen.marks) (length c.loop-cost.queue) (length c.deal.new.queue) (length c.pop.new.self) (popped_length (c.in-Some.cost, c.in-Some.at) c.loop-cost.queue c.pop.new.self c.in-Some.ensures.entry) put.count put.more
    (omega (arith, copies_most c.deal.new.seen.marks, put.full, c.loop-cost.invariant.full))

pub loop-cost-preserved : goal.loop-cost-preserved
loop-cost-preserved c =
    let i = c.loop-cost.invariant in
    let ok = c.in_ok-deal.ensures in
    record {
      full = ok.dealt.put.full ∙ i.full;
      repair = list_dealt_on c.args.field.now c.extent-extent.ensures.field c.args.values.now c.loop-cost.values c.loop-cost.seen c.loop-cost.queue c.pop.new.self c.in-Some.cost c.in-Some.at i.repair c.in-Some.ensures.entry c.in-Some.ensures.least c.deal.new.values c.deal.new.seen c.deal.new.queue ok.count ok.dealt;
    }

pub returns-clause-count : goal.returns-clause-count
returns-clause-count c = c.loop-cost.invariant.repair.count ∙ sym c.requires.begun.count

pub returns-clause-cells : goal.returns-clause-cells
returns-clause-cells c = c.loop-cost.invariant.repair.cells

pub returns-clause-right : goal.returns-clause-right
returns-clause-right c = list_wanted c.args.field.now c.extent-extent.ensures.field c.args.values.now c.loop-cost.values c.loop-cost.seen c.loop-cost.queue c.in_default.ensures.none c.loop-cost.invariant.repair
