use Rattle.std.proofs.Common.{sym, ◌∙◌}
use Rattle.least_costs.proofs.Fills.{offered_then}
use Rattle.friction_spread.specs.Costs.{net_of}
use Rattle.friction_spread.specs.Flat.{costs_of}
use Rattle.friction_spread.proofs.Rounds.{row_relaxed_next}
use Rattle.friction_spread.proofs.fills.offer_row.Goals as goal

pub offer-requires-clause-value : goal.offer-requires-clause-value
offer-requires-clause-value c = c.requires.value ∙ sym c.loop-c.invariant.offered.here

pub loop-c-preserved : goal.loop-c-preserved
loop-c-preserved c =
    let gr = c.args.ground.now in
    let ok = c.in_ok-offer.ensures in
    let d = costs_of gr c.loop-c.costs in
    let d' = costs_of gr c.offer.new.costs in
    record {
      offered = offered_then (net_of gr) c.args.value c.args.from.at (costs_of gr c.args.costs.now) c.args.queue.now d c.loop-c.queue d' c.offer.new.queue c.loop-c.invariant.offered ok.offered;
      relaxed = row_relaxed_next (net_of gr) gr.size d d' c.args.from.at ok.offered.falls ok.offered.here c.args.row c.loop-c.c c.spot_at-to.result c.spot_at-to.ensures.spot c.spot_at-to.ensures.row c.spot_at-to.ensures.column ok.relaxed c.loop-c.invariant.relaxed;
    }
