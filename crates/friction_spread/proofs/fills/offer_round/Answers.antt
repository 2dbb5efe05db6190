use Rattle.std.proofs.Common.{◌≡◌, sym, ◌∙◌, ap, arith}
use Rattle.map_nums.specs.Grids.{Size, row_of}
use Rattle.least_costs.proofs.Fills.{offered_then, offered_none}
use Rattle.friction_spread.specs.Costs.{net_of}
use Rattle.friction_spread.specs.Flat.{costs_of}
use Rattle.friction_spread.proofs.Grounds.{leads}
use Rattle.friction_spread.proofs.Least.{row_lt, step_barrier}
use Rattle.friction_spread.proofs.Rounds.{below, round_relaxed_next}
use Rattle.friction_spread.proofs.fills.offer_round.Goals as goal

pub returns-then-own-eq0-clause-offered : goal.returns-then-own-eq0-clause-offered
returns-then-own-eq0-clause-offered c = offered_none (net_of c.args.ground.now) c.args.value c.args.from.at (costs_of c.args.ground.now c.args.costs.now) c.args.queue.now

pub returns-then-own-eq0-clause-relaxed : goal.returns-then-own-eq0-clause-relaxed
returns-then-own-eq0-clause-relaxed c = λ i l. absurd (omega (arith, l, step_barrier c.args.ground.now c.args.from.at i (sym c.friction-own.ensures.value ∙ c.if-own-eq0.true)))

pub offer_row-requires-clause-own : goal.offer_row-requires-clause-own
offer_row-requires-clause-own c = (c.friction-own.ensures.value, omega (arith, c.if-own-eq0.false), omega (arith, c.friction-own.ensures.low))

pub offer_row-requires-clause-value : goal.offer_row-requires-clause-value
offer_row-requires-clause-value c = c.requires.value ∙ sym c.loop-r.invariant.offered.here

pub loop-r-preserved : goal.loop-r-preserved
loop-r-preserved c =
    let gr = c.args.ground.now in
    let ok = c.in_ok-offer_row.ensures in
    let d = costs_of gr c.loop-r.costs in
    let d' = costs_of gr c.offer_row.new.costs in
    record {
      offered = offered_then (net_of gr) c.args.value c.args.from.at (costs_of gr c.args.costs.now) c.args.queue.now d c.loop-r.queue d' c.offer_row.new.queue c.loop-r.invariant.offered ok.offered;
      relaxed = round_relaxed_next (net_of gr) gr.size d d' c.args.from.at ok.offered.falls ok.offered.here c.loop-r.r ok.relaxed c.loop-r.invariant.relaxed;
    }

pub returns-clause-relaxed : goal.returns-clause-relaxed
returns-clause-relaxed c =
    let gr = c.args.ground.now in
    let s = gr.size in
    let n : c.rows-rows.result ≡ s.rows = c.rows-rows.ensures.rows ∙ ap (λ (z : Size). z.rows) c.extent.ensures.extent in
    λ i l. let j = leads gr c.args.from.at i l in
    let m = below (row_of s c.args.from.at) (row_of s i) s.rows c.min-high.result j.rows (row_lt s i c.extent.ensures.ground.size j.to) (omega (arith, c.min-high.ensures, n, c.requires.spot.row)) in
    c.loop-r.invariant.relaxed i j.to j.rows j.columns (omega (arith, m, c.loop-r-test.false)) l
